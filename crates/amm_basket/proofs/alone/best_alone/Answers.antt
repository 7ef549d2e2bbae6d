use Rattle.std.proofs.Common.{arith}
use Rattle.amm_split.proofs.OneOrTwo.{found_none, found_some}
use Rattle.amm_basket.proofs.alone.best_alone.Goals as goal

pub returns-in_default-clause-ways : goal.returns-in_default-clause-ways
returns-in_default-clause-ways c value is =
    absurd (found_none c.args.problem.now c.args.part.now c.in_ok-found.field-0 c.in_default.not-Some c.in_ok-found.ensures value is)

pub returns-then-found-kept-clause-ways : goal.returns-then-found-kept-clause-ways
returns-then-found-kept-clause-ways c value is =
    let best = found_some c.args.problem.now c.args.part.now c.in_ok-found.field-0 c.in-Some.found c.in-Some.is c.in_ok-found.ensures in
    omega (arith, best.ways value is)
