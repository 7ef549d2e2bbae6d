use Rattle.std.proofs.Common.{◌∙◌, ap, sym, arith}
use Rattle.amm_model.specs.Paths.{hop_gives}
use Rattle.amm_cycle.proofs.Gifts.{gives-more}
use Rattle.amm_cycle.proofs.chain.Chain.gives.Goals as goal

pub loop-k-preserved : goal.loop-k-preserved
loop-k-preserved c = record {
  value = c.hop_at-amount.ensures.value ∙ ap (hop_gives c.args.problem.now.pools _) c.loop-k.invariant.value ∙ sym (gives-more c.args.problem.now.pools c.args.self.now.hops c.loop-k.k _ c.args.x (omega arith));
  below = omega (arith, c.hop_at-amount.ensures.below);
}
