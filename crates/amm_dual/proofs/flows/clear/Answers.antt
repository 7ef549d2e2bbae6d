use Rattle.std.proofs.Common.{◌≡◌, arith, get_or}
use Rattle.amm_dual.proofs.Values.{value_in-none}
use Rattle.amm_dual.proofs.flows.clear.Goals as goal

pub returns-clause-few : goal.returns-clause-few
returns-clause-few c = λ k d below.
    let none : get_or c.loop-j.amounts k d ≡ 0 = c.loop-j.invariant.none k d (omega (arith, below, c.loop-j.invariant.many, c.loop-j-test.false)) in
    omega arith

pub returns-clause-none : goal.returns-clause-none
returns-clause-none c = λ prices.
    value_in-none prices c.loop-j.amounts (λ k below. c.loop-j.invariant.none k 0 (omega (arith, below, c.loop-j.invariant.many, c.loop-j-test.false)))
