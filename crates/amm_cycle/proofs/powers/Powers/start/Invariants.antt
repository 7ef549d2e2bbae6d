use Rattle.std.proofs.Common.{◌≡◌, ◌<◌, ◌^◌, ℕ, length, get_or}
use Rattle.amm_cycle.proofs.powers.Powers.start.Given as goal

abbrev pub invariant-loop-e : goal.invariant-loop-e
invariant-loop-e l = record {
  long : length l.amounts ≡ 52;
  each : (k : ℕ) → k < l.e → get_or l.amounts k 0 ≡ 2 ^ k;
  below : (k : ℕ) → k < l.e → get_or l.amounts k 0 < 2 ^ 52;
}
