use Rattle.std.proofs.Common.{◌≡◌, ◌≤◌, length}
use Rattle.amm_dual.proofs.flows.no_amounts.Given as goal

abbrev pub invariant-loop : goal.invariant-loop
invariant-loop l = record {
  whole : l.end ≡ length l.problem.tokens;
  within : l.counter ≤ l.end;
  many : length l.amounts.items ≡ l.counter;
}
