use Rattle.std.proofs.Common.{◌<◌, ◌≤◌, ◌^◌}
use Rattle.amm_cycle.specs.Chains.{IsStanding}
use Rattle.amm_cycle.proofs.found.climbed.Given as goal

abbrev pub invariant-loop : goal.invariant-loop
invariant-loop l = record {
  found : IsStanding l.problem.pools l.problem.t l.best;
  more : l.fn.start.profit ≤ l.best.profit;
  small : l.step < 2 ^ 52;
}
