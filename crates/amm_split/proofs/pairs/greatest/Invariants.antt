use Rattle.std.proofs.Common.{◌<◌, ◌≤◌, ◌^◌, ℕ, get_or}
use Rattle.amm_split.proofs.pairs.greatest.Given as goal

abbrev pub invariant-loop-amount : goal.invariant-loop-amount
invariant-loop-amount l = record {
  most : (k d : ℕ) → k < l.amount-index → get_or l.amounts k d ≤ l.most;
  below : l.most < 2 ^ 48;
}
