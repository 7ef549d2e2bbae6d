use Rattle.std.proofs.Common.{◌≡◌, ◌<◌, ◌≤◌, ◌*◌, ℕ, length}
use Rattle.std.specs.Prelude.{slice_index_or}
use Rattle.amm_dual.specs.Singles.{no_single}
use Rattle.amm_dual.proofs.singles.no_singles.Given as goal

abbrev pub invariant-loop : goal.invariant-loop
invariant-loop l = record {
  whole : l.end ≡ 32 * length l.problem.tokens;
  within : l.counter ≤ l.end;
  many : length l.singles.items ≡ l.counter;
  none : (j : ℕ) → j < length l.singles.items → slice_index_or l.singles.items j no_single ≡ no_single;
}
