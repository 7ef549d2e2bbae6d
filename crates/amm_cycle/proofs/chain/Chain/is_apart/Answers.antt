use Rattle.std.proofs.Common.{◌∙◌, sym, arith}
use Rattle.std.proofs.lemmas.List.Elements.{All-more}
use Rattle.amm_cycle.specs.Chains.{IsApart}
use Rattle.amm_graph.proofs.Sides.{names_apart}
use Rattle.amm_cycle.proofs.chain.Chain.is_apart.Goals as goal

pub loop-k-preserved : goal.loop-k-preserved
loop-k-preserved c =
    All-more (IsApart c.args.problem.now.pools c.args.hop) c.args.self.now.hops c.loop-k.k _ (omega arith) c.loop-k.invariant (
      c.if-passed-hop.false,
      (λ e. names_apart c.args.problem.now c.leads_to.ensures.sound c.leads_to.result c.args.next c.leads_to.ensures.there c.requires.there c.if-leads_to-next.false
          (c.leads_to.ensures.name ∙ e ∙ sym c.requires.next)),
    )
