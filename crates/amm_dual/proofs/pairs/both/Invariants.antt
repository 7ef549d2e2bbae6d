use Rattle.std.proofs.Common.{◌≡◌, ◌≤◌, ◌-◌, length}
use Rattle.amm_dual.specs.Singles.{IsShared}
use Rattle.amm_dual.proofs.pairs.both.Given as goal

abbrev pub invariant-loop-i : goal.invariant-loop-i
invariant-loop-i l = record {
  many : l.count ≡ length l.running.problem.pools;
  within : l.i ≤ l.count;
  shared : IsShared l.running.problem l.running.prices l.changes l.i l.balance;
}

abbrev pub decreases-loop-i : goal.decreases-loop-i
decreases-loop-i l = l.count - l.i
