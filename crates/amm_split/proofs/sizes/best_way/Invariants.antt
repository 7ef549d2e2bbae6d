use Rattle.std.proofs.Common.{◌≡◌, ◌⊎◌}
use Rattle.amm_split.specs.Sizes.{IsWayOf, SizesBelow}
use Rattle.amm_split.proofs.sizes.best_way.Given as goal

abbrev pub invariant-loop-k : goal.invariant-loop-k
invariant-loop-k l = record {
  value : (l.best.amount ≡ 0) ⊎ IsWayOf l.problem.pools l.paths l.d l.best;
  best : SizesBelow l.problem.pools l.paths l.d l.best.amount l.k;
}
