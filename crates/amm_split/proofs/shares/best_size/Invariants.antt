use Rattle.std.proofs.Common.{◌≡◌, ℕ, ◌<◌, ◌≤◌}
use Rattle.amm_split.specs.Shares.{Fits, gain_on}
use Rattle.amm_split.proofs.shares.best_size.Given as goal

abbrev pub invariant-loop-size : goal.invariant-loop-size
invariant-loop-size l = record {
  found : 1 ≤ l.best.gain → Fits l.terms l.left l.best.size × (l.best.size < l.size) × (l.best.gain ≡ gain_on l.terms l.row.amounts l.best.size);
  most : (k : ℕ) → l.terms.least ≤ k → k < l.size → gain_on l.terms l.row.amounts k ≤ l.best.gain;
  least : (k : ℕ) → l.terms.least ≤ k → k < l.size → 1 ≤ l.best.gain → gain_on l.terms l.row.amounts k ≡ l.best.gain → l.best.size ≤ k;
}
