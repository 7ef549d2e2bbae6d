use Rattle.std.proofs.Common.{◌≡◌, ◌∙◌, ◌^◌, List, ℕ, ap, get_or, sym}
use Rattle.amm_model.specs.Bound.{price_of}
use Rattle.amm_dual.proofs.Duality.{settled-by-legs}
use Rattle.amm_dual.proofs.settling.are_settled_by.Goals as goal

pub returns : goal.returns
returns c =
    let problem = c.args.problem.now in
    let prices = c.args.prices.now in
    let unit : price_of problem.tokens prices problem.t ≡ 2 ^ 20 =
    ap (λ (j : ℕ). get_or prices j 0) (sym c.target.ensures.place) ∙ sym (ap (λ (l : List ℕ). get_or l c.target.result 0) c.as_slice-list.ensures.list) ∙ c.if-list-target-ne-UNIT.false in
    λ yes. settled-by-legs problem prices c.args.legs.now c.open_legs_delivered.result c.in-Some.delivered c.open_bound-bound.result c.target.ensures.sound c.requires
    c.as_slice-list.ensures.ranges unit c.open_legs_delivered.ensures c.in-Some.is c.open_bound-bound.ensures.value (c.is_near.ensures yes)
