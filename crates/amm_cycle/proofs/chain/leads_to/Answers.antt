use Rattle.amm_graph.proofs.Sides.{one_name, zero_name}
use Rattle.amm_cycle.proofs.chain.leads_to.Goals as goal

pub returns-then-hop-clause-name : goal.returns-then-hop-clause-name
returns-then-hop-clause-name c =
    rw c.if-hop.true (one_name c.args.problem.now c.places-places.ensures.sound c.places-places.result.now c.args.hop.pool c.requires c.places-places.ensures.list)

pub returns-else-hop-clause-name : goal.returns-else-hop-clause-name
returns-else-hop-clause-name c =
    rw c.if-hop.false (zero_name c.args.problem.now c.places-places.ensures.sound c.places-places.result.now c.args.hop.pool c.requires c.places-places.ensures.list)
