use Rattle.std.proofs.Common.{◌≤◌, ◌-◌, length}
use Rattle.amm_dual.specs.Running.{IsBalance}
use Rattle.amm_dual.proofs.running.Running.pools_after.Given as goal

abbrev pub invariant-loop-i : goal.invariant-loop-i
invariant-loop-i l = record {
  within : l.i ≤ length l.self-inside.problem.now.pools;
  balance : IsBalance l.self-inside.problem.now l.self-inside.prices.items l.changes l.i l.balance;
}

abbrev pub decreases-loop-i : goal.decreases-loop-i
decreases-loop-i l = length l.self-inside.problem.now.pools - l.i
