use Rattle.std.proofs.Common.{◌≡◌, ◌<◌, ℕ, length}
use Rattle.std.specs.Prelude.{slice_index_or}
use Rattle.amm_dual.specs.Singles.{no_single}
use Rattle.amm_dual.proofs.singles.forget.Given as goal

abbrev pub invariant-loop-j : goal.invariant-loop-j
invariant-loop-j l = record {
  many : length l.singles ≡ length l.fn.singles;
  none : (k : ℕ) → k < l.j → slice_index_or l.singles k no_single ≡ no_single;
}
