use Rattle.std.proofs.Common.{◌≡◌, map, take}
use Rattle.amm_model.specs.Bound.{pool_worth}
use Rattle.amm_dual.proofs.running.worths_of.Given as goal

abbrev pub invariant-loop-i : goal.invariant-loop-i
invariant-loop-i l = l.worths.items ≡ map (pool_worth l.problem.tokens l.prices) (take l.i l.problem.pools)
