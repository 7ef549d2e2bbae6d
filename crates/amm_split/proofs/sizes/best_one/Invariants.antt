use Rattle.std.proofs.Common.{◌≡◌, ◌≤◌, ◌⊎◌}
use Rattle.amm_split.specs.Sizes.{IsOne, OnesBelow}
use Rattle.amm_split.proofs.sizes.best_one.Given as goal

abbrev pub invariant-loop-i : goal.invariant-loop-i
invariant-loop-i l = record {
  more : l.fn.kept.amount ≤ l.best.amount;
  value : (l.best ≡ l.fn.kept) ⊎ IsOne l.amounts l.k l.best;
  best : OnesBelow l.amounts l.best.amount l.i;
}
