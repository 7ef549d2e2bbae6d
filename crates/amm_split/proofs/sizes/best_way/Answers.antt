use Rattle.amm_split.proofs.AtSizes.{sizes_more, way_more}
use Rattle.amm_split.proofs.sizes.best_way.Goals as goal

pub loop-k-preserved : goal.loop-k-preserved
loop-k-preserved c = record {
  value = way_more c.args.problem.now.pools c.args.paths.now c.args.d c.loop-k.best c.in_ok-best.best c.loop-k.invariant.value c.in_ok-best.ensures.value;
  best = sizes_more c.args.problem.now.pools c.args.paths.now c.args.d c.loop-k.best.amount c.in_ok-best.best.amount c.loop-k.k c.in_ok-best.ensures.more c.loop-k.invariant.best c.in_ok-best.ensures.best;
}
