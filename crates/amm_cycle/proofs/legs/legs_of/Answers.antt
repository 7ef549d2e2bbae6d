use Rattle.std.proofs.Common.{◌∙◌, ap, sym, arith}
use Rattle.amm_model.specs.Paths.{hop_gives}
use Rattle.amm_cycle.proofs.Gifts.{gives-more, legs_pushed}
use Rattle.amm_cycle.proofs.legs.legs_of.Goals as goal

pub loop-k-preserved : goal.loop-k-preserved
loop-k-preserved c = record {
  legs = legs_pushed c.args.problem.now.pools c.args.chain.now.hops c.loop-k.k _ c.args.x c.loop-k.input c.hop_at-output.result c.loop-k.legs.items c.push.new.self.items (omega arith)
      c.in_ok-push.ensures.items c.hop_at-output.ensures.value c.loop-k.invariant.value c.loop-k.invariant.legs;
  value = c.hop_at-output.ensures.value ∙ ap (hop_gives c.args.problem.now.pools _) c.loop-k.invariant.value ∙ sym (gives-more c.args.problem.now.pools c.args.chain.now.hops c.loop-k.k _ c.args.x (omega arith));
  below = omega (arith, c.hop_at-output.ensures.below);
}
