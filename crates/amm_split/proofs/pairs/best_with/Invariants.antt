use Rattle.std.proofs.Common.{◌≡◌, ◌≤◌, ◌⊎◌}
use Rattle.amm_split.specs.Pairs.{IsPair, PartnersBelow}
use Rattle.amm_split.proofs.pairs.best_with.Given as goal

abbrev pub invariant-loop-j : goal.invariant-loop-j
invariant-loop-j l = record {
  more : l.fn.kept.amount ≤ l.best.amount;
  pair : (l.best ≡ l.fn.kept) ⊎ IsPair l.paths l.firsts l.seconds l.best;
  best : PartnersBelow l.paths l.firsts l.seconds l.best.amount l.i l.j;
}
