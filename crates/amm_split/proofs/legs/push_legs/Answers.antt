use Rattle.amm_split.proofs.Hops.{third-over}
use Rattle.amm_split.proofs.legs.push_legs.Goals as goal

pub push_leg-requires-3-clause-hop : goal.push_leg-requires-3-clause-hop
push_leg-requires-3-clause-hop c = third-over c.args.problem.now.pools c.args.path.now c.requires.short.0 c.if-path-eq1.false c.if-path-eq2.false c.requires.over
