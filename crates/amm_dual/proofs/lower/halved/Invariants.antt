use Rattle.std.proofs.Common.{◌≤◌, ◌<◌, ◌^◌}
use Rattle.amm_dual.proofs.lower.halved.Given as goal

abbrev pub invariant-loop : goal.invariant-loop
invariant-loop l = record {
  least : 1 ≤ l.low;
  ordered : l.low ≤ l.high;
  most : l.high < 2 ^ 40;
}
