use Rattle.std.proofs.Common.{◌≡◌, ◌<◌, ◌≤◌, ◌-◌, ◌^◌, ℕ, get_or}
use Rattle.amm_cycle.proofs.powers.Powers.peak.Given as goal

abbrev pub invariant-loop-e : goal.invariant-loop-e
invariant-loop-e l = record {
  most : (k : ℕ) → k < l.e → get_or l.self.amounts k 0 - 2 ^ k ≤ l.best.gain;
  found : 1 ≤ l.best.gain → (k : ℕ) × (k < 52) × (l.best.x ≡ 2 ^ k) × (l.best.gain ≡ get_or l.self.amounts k 0 - 2 ^ k);
}
