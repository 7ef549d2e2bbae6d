use Rattle.std.proofs.Common.{◌≡◌, ◌≤◌, ◌⊎◌}
use Rattle.amm_split.specs.Pairs.{IsPair, PairsBelow}
use Rattle.amm_split.proofs.pairs.best_pair.Given as goal

abbrev pub invariant-loop-i : goal.invariant-loop-i
invariant-loop-i l = record {
  more : l.fn.kept.amount ≤ l.best.amount;
  pair : (l.best ≡ l.fn.kept) ⊎ IsPair l.paths l.firsts l.seconds l.best;
  best : PairsBelow l.paths l.firsts l.seconds l.best.amount l.i;
}
