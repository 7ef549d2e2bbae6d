use Rattle.std.proofs.Common.{◌≡◌, ℕ, ◌<◌, length}
use Rattle.amm_split.specs.Shares.{IsRow, amounts_at, hops_at}
use Rattle.amm_split.proofs.rows.rows_of.Given as goal

abbrev pub invariant-loop-path : goal.invariant-loop-path
invariant-loop-path l = record {
  many : length l.rows.items ≡ l.path-index;
  each : (i : ℕ) → i < l.path-index → IsRow l.problem.pools (hops_at l.paths i) l.d (amounts_at l.rows.items i);
}
