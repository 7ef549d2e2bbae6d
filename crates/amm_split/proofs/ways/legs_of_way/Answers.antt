use Rattle.std.proofs.Common.{◌≡◌, ℕ, List, arith, ap, sym, ◌∙◌, ◌-◌, ◌++◌}
use Rattle.amm_model.specs.declared.route.Leg.{Leg}
use Rattle.amm_model.specs.Paths.{gives, legs_along}
use Rattle.amm_model.specs.Values.{sixteenths}
use Rattle.amm_split.specs.Pairs.{no_path}
use Rattle.amm_split.specs.Shares.{hops_at}
use Rattle.amm_split.proofs.Bridge.{path_at}
use Rattle.amm_split.proofs.OneOrTwo.{given_none, given_some, none_of, one-delivers, two-deliver}
use Rattle.amm_split.proofs.ways.legs_of_way.Goals as goal

pub push_legs-requires-clause-short : goal.push_legs-requires-clause-short
push_legs-requires-clause-short c =
    (path_at c.args.problem.now.pools c.args.part.now.token c.args.problem.now.t c.args.paths.now c.requires.paths.sound c.args.way.now.first no_path c.requires.way.there).short

pub push_legs-requires-clause-over : goal.push_legs-requires-clause-over
push_legs-requires-clause-over c =
    (path_at c.args.problem.now.pools c.args.part.now.token c.args.problem.now.t c.args.paths.now c.requires.paths.sound c.args.way.now.first no_path c.requires.way.there).over

pub returns-in_default : goal.returns-in_default
returns-in_default c =
    let problem = c.args.problem.now in
    let part = c.args.part.now in
    let way = c.args.way.now in
    let x-is : c.sixteenths-x.result ≡ sixteenths c.args.part.now.amount c.args.way.now.k = c.sixteenths-x.ensures.value ∙ ap (λ (d : ℕ). sixteenths d c.args.way.now.k) c.part_amount-d.ensures.value in
    let e = none_of way.second c.in_default.not-Some in
    one-delivers problem part (hops_at c.args.paths.now way.first) c.sixteenths-x.result way.amount c.from_vec.result c.part_amount-d.ensures.sound c.requires.part
    (path_at problem.pools part.token problem.t c.args.paths.now c.requires.paths.sound way.first no_path c.requires.way.there)
    (omega (arith, c.sixteenths-x.ensures.within, c.part_amount-d.ensures.value)) c.requires.way.some
    (given_none problem.pools c.args.paths.now part.amount way e c.requires.way ∙ sym (ap (gives c.args.problem.now.pools (hops_at c.args.paths.now c.args.way.now.first)) x-is))
    (c.from_vec.ensures ∙ (rw c.new-legs.ensures.items at c.in_ok-push_legs.ensures))

pub push_legs-requires-2-clause-short : goal.push_legs-requires-2-clause-short
push_legs-requires-2-clause-short c =
    let given = given_some c.args.problem.now.pools c.args.paths.now c.args.part.now.amount c.args.way.now c.in-Some.second c.in-Some.is c.requires.way in
    (path_at c.args.problem.now.pools c.args.part.now.token c.args.problem.now.t c.args.paths.now c.requires.paths.sound c.in-Some.second no_path given.1).short

pub push_legs-requires-2-clause-over : goal.push_legs-requires-2-clause-over
push_legs-requires-2-clause-over c =
    let given = given_some c.args.problem.now.pools c.args.paths.now c.args.part.now.amount c.args.way.now c.in-Some.second c.in-Some.is c.requires.way in
    (path_at c.args.problem.now.pools c.args.part.now.token c.args.problem.now.t c.args.paths.now c.requires.paths.sound c.in-Some.second no_path given.1).over

pub returns : goal.returns
returns c =
    let problem = c.args.problem.now in
    let part = c.args.part.now in
    let way = c.args.way.now in
    let paths = c.args.paths.now in
    let second = c.in-Some.second in
    let x = c.sixteenths-x.result in
    let y = c.part_amount-d.result - c.sixteenths-x.result in
    let x-is : c.sixteenths-x.result ≡ sixteenths c.args.part.now.amount c.args.way.now.k = c.sixteenths-x.ensures.value ∙ ap (λ (d : ℕ). sixteenths d c.args.way.now.k) c.part_amount-d.ensures.value in
    let y-is : c.part_amount-d.result - c.sixteenths-x.result ≡ c.args.part.now.amount - sixteenths c.args.part.now.amount c.args.way.now.k = omega (arith, x-is, c.part_amount-d.ensures.value) in
    let given = given_some problem.pools paths part.amount way second c.in-Some.is c.requires.way in
    let first-gives : gives c.args.problem.now.pools (hops_at c.args.paths.now c.args.way.now.first) c.sixteenths-x.result ≡ gives c.args.problem.now.pools (hops_at c.args.paths.now c.args.way.now.first) (sixteenths c.args.part.now.amount c.args.way.now.k) = ap (gives c.args.problem.now.pools (hops_at c.args.paths.now c.args.way.now.first)) x-is in
    let second-gives : gives c.args.problem.now.pools (hops_at c.args.paths.now c.in-Some.second) (c.part_amount-d.result - c.sixteenths-x.result) ≡ gives c.args.problem.now.pools (hops_at c.args.paths.now c.in-Some.second) (c.args.part.now.amount - sixteenths c.args.part.now.amount c.args.way.now.k) = ap (gives c.args.problem.now.pools (hops_at c.args.paths.now c.in-Some.second)) y-is in
    two-deliver problem part (hops_at paths way.first) (hops_at paths second) x y way.amount c.from_vec-2.result c.part_amount-d.ensures.sound c.requires.part
    (path_at problem.pools part.token problem.t paths c.requires.paths.sound way.first no_path c.requires.way.there)
    (path_at problem.pools part.token problem.t paths c.requires.paths.sound second no_path given.1) given.2
    (omega (arith, c.sixteenths-x.ensures.within, c.part_amount-d.ensures.value)) (omega (arith, c.part_amount-d.ensures.value))
    (omega (arith, first-gives, given.3)) (omega (arith, second-gives, given.4)) (omega (arith, first-gives, second-gives, given.5))
    (c.from_vec-2.ensures ∙ (c.in_ok-push_legs-2.ensures
    ∙ ap (λ (l : List Leg). l ++ legs_along c.args.problem.now.pools (hops_at c.args.paths.now c.in-Some.second) (c.part_amount-d.result - c.sixteenths-x.result)) (rw c.new-legs.ensures.items at c.in_ok-push_legs.ensures)))
