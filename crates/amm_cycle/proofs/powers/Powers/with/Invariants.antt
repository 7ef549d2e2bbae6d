use Rattle.std.proofs.Common.{◌≡◌, ◌<◌, ◌^◌, ℕ, length, get_or}
use Rattle.amm_model.specs.Paths.{hop_gives}
use Rattle.amm_cycle.proofs.powers.Powers.with.Given as goal

abbrev pub invariant-loop-e : goal.invariant-loop-e
invariant-loop-e l = record {
  long : length l.amounts ≡ 52;
  each : (k : ℕ) → k < l.e → get_or l.amounts k 0 ≡ hop_gives l.problem.pools l.hop (get_or l.self.amounts k 0);
  below : (k : ℕ) → k < l.e → get_or l.amounts k 0 < 2 ^ 52;
}
