use Rattle.std.proofs.Common.{◌≡◌, ◌<◌, ℕ, length}
use Rattle.std.specs.Prelude.{slice_index_or}
use Rattle.amm_dual.proofs.flows.clear.Given as goal

abbrev pub invariant-loop-j : goal.invariant-loop-j
invariant-loop-j l = record {
  many : length l.amounts ≡ length l.fn.amounts;
  none : (k d : ℕ) → k < l.j → slice_index_or l.amounts k d ≡ 0;
}
