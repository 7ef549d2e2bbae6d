use Rattle.std.proofs.Common.{◌≤◌, ◌+◌, ◌-◌, ◌*◌}
use Rattle.amm_cycle.specs.Chains.{IsFound, IsMostBelow, hops_of}
use Rattle.amm_cycle.proofs.walk.+walk.Given as goal

abbrev pub decreases-extend : goal.decreases-extend
decreases-extend l = 3 * (4 - l.begun.now.count) + 2

abbrev pub decreases-over : goal.decreases-over
decreases-over l = 3 * (4 - l.begun.now.count) + 1

abbrev pub decreases-follow : goal.decreases-follow
decreases-follow l = 3 * (4 - l.begun.now.count)

-- the cycles over the pools passed were met
abbrev pub invariant-extend-loop-i : goal.invariant-extend-loop-i
invariant-extend-loop-i l = record {
  found : IsFound l.problem.pools l.problem.t l.best;
  more : l.fn.kept.profit ≤ l.best.profit;
  most : IsMostBelow l.problem.pools l.problem.t (hops_of l.begun) l.best.profit l.i;
}
