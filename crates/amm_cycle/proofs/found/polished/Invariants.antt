use Rattle.std.proofs.Common.{◌≤◌}
use Rattle.amm_cycle.specs.Chains.{IsStanding}
use Rattle.amm_cycle.proofs.found.polished.Given as goal

abbrev pub invariant-loop-distance : goal.invariant-loop-distance
invariant-loop-distance l = record {
  found : IsStanding l.problem.pools l.problem.t l.best;
  more : l.fn.start.profit ≤ l.best.profit;
}
