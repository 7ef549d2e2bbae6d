use Rattle.std.proofs.Common.{◌≡◌, ◌∙◌, ◌<◌, ◌^◌, ◌+◌, ◌*◌, length, List, ℕ, subst, sym, ap, arith, refl, below_more, true, false, get_or}
use Rattle.amm_model.specs.Routing.{OpenView}
use Rattle.amm_model.specs.Bound.{bound_of, price_of}
use Rattle.amm_dual.specs.declared.singles.Single.{Single}
use Rattle.amm_dual.specs.Singles.{AreSingles}
use Rattle.amm_dual.specs.Moves.{Helps, NoHelpAt}
use Rattle.amm_dual.proofs.Numbers.{move_sound}
use Rattle.amm_dual.proofs.Steps.{not_settled, settled-from}
use Rattle.amm_dual.proofs.descent.open_settled.Goals as goal

pub returns-then-improve_at : goal.returns-then-improve_at
returns-then-improve_at c =
    let problem = c.args.problem.now in
    let prices = c.args.prices.now in
    let below : c.loop-n.n < 64 * (length problem.tokens + length problem.pools) = omega (arith, c.loop-n-test.true, c.move_count-n-end.ensures) in
    let helps : Helps problem prices c.loop-n.n = subst (λ (o : OpenView). Helps o prices c.loop-n.n) c.loop-n.invariant.problem
    (subst (λ (ps : List ℕ). Helps c.loop-n.running.problem ps c.loop-n.n) c.loop-n.invariant.prices (c.improve_at.ensures.helps c.if-improve_at.true)) in (
      (λ says. absurd (let e : false ≡ true = says in cc)),
      (λ settled. absurd (not_settled problem prices c.loop-n.n helps (λ step is. move_sound problem c.target.ensures.sound c.loop-n.n step below is) settled)),
    )

pub loop-n-preserved : goal.loop-n-preserved
loop-n-preserved c =
    let problem = c.args.problem.now in
    let prices = c.args.prices.now in
    let here : NoHelpAt problem prices c.loop-n.n = subst (λ (o : OpenView). NoHelpAt o prices c.loop-n.n) c.loop-n.invariant.problem
    (subst (λ (ps : List ℕ). NoHelpAt c.loop-n.running.problem ps c.loop-n.n) c.loop-n.invariant.prices (c.improve_at.ensures.steady c.if-improve_at.false)) in
    record {
      singles = c.improve_at.ensures.singles;
      problem = c.improve_at.ensures.problem ∙ c.loop-n.invariant.problem;
      prices = c.improve_at.ensures.kept c.if-improve_at.false ∙ c.loop-n.invariant.prices;
      before = c.loop-n.invariant.before;
      none = below_more (λ (m : ℕ). NoHelpAt problem prices m) c.loop-n.n c.loop-n.invariant.none here;
    }

pub returns : goal.returns
returns c =
    let problem = c.args.problem.now in
    let prices = c.args.prices.now in
    let unit : price_of problem.tokens prices problem.t ≡ 2 ^ 20 =
    ap (λ (j : ℕ). get_or prices j 0) (sym c.target.ensures.place) ∙ sym (ap (λ (l : List ℕ). get_or l c.target.result 0) c.as_slice-list.ensures.list) ∙ c.if-list-target-ne-UNIT.false in (
      (λ says. settled-from problem prices c.requires c.as_slice-list.ensures.ranges unit
          (λ n below. c.loop-n.invariant.none n (omega (arith, c.loop-n-test.false, c.move_count-n-end.ensures)))),
      (λ settled. refl),
    )

pub loop-n-init : goal.loop-n-init
loop-n-init c =
    let running = c.in_ok-running.running in
    let same = c.in_ok-running.ensures.problem in
    let prices = c.in_ok-running.ensures.prices in
    record {
      singles = subst (λ (list : List Single). AreSingles running.problem running.prices list) (sym c.as_mut_slice-singles.ensures.value)
          (subst (λ (o : OpenView). AreSingles o running.prices c.in_ok-list_of_singles.list_of_singles.items) (sym same) (c.in_ok-list_of_singles.ensures running.prices));
      problem = same;
      prices = prices;
      before = c.bound-before.ensures.value ∙ ap (λ (o : OpenView). bound_of o running.prices) same ∙ ap (bound_of c.args.problem.now) prices;
      none = λ n below. absurd (omega arith);
    }
