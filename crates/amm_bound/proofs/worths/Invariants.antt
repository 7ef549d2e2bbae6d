use Rattle.std.proofs.Common.{◌≡◌, ◌*◌, ◌^◌, ◌≤◌, take}
use Rattle.std.specs.Prelude.{sum_by}
use Rattle.amm_model.specs.Bound.{pool_worth}
use Rattle.amm_bound.proofs.worths.Given as goal

-- the value so far is that of the pools passed
abbrev pub invariant-loop-i : goal.invariant-loop-i
invariant-loop-i l = record {
  value_is : l.value ≡ sum_by (pool_worth l.problem.tokens l.prices) (take l.i l.problem.pools);
  below : l.value ≤ l.i * 2 ^ 99;
}
