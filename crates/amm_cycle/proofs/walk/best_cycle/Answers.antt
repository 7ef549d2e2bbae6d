use Rattle.amm_cycle.specs.Chains.{hops_of}
use Rattle.amm_cycle.proofs.Steps.{all_met, begun_none, target_name}
use Rattle.amm_cycle.proofs.walk.best_cycle.Goals as goal

pub extend-requires-clause-begun : goal.extend-requires-clause-begun
extend-requires-clause-begun c =
    let problem = c.args.problem.now in
    begun_none problem.pools problem.t _ _ c.empty.ensures.hops (target_name problem c.target-target.result c.target-target.ensures.sound c.target-target.ensures.place)

pub extend-requires-clause-powers : goal.extend-requires-clause-powers
extend-requires-clause-powers c = rw c.empty.ensures.hops (c.start.ensures c.args.problem.now.pools)

pub returns-clause-most : goal.returns-clause-most
returns-clause-most c = all_met c.args.problem.now.pools c.args.problem.now.t (hops_of c.empty.result) c.extend.result.profit c.empty.ensures.hops c.extend.ensures.most
