use Rattle.std.proofs.Common.{List, IfOk, map, subst}
use Rattle.amm_model.specs.declared.problem.ProblemPool.{ProblemPool}
use Rattle.amm_names.specs.Names.{Name}
use Rattle.amm_model.specs.Paths.{AreAllPaths}
use Rattle.amm_graph.specs.Hops.{hops_of}
use Rattle.amm_graph.proofs.Sides.{ends_of, name_at}
use Rattle.amm_graph.proofs.paths.Goals as goal

pub paths_between-requires-clause-apart : goal.paths_between-requires-clause-apart
paths_between-requires-clause-apart c =
    (ends_of c.args.problem.now c.as_open-general.result.now c.part_places-places.result.now c.target.result c.as_open-general.ensures c.target.ensures.sound c.part_places-places.ensures.list c.target.ensures.place).apart

pub returns : goal.returns
returns c =
    let general = c.as_open-general.result.now in
    let ends = ends_of c.args.problem.now general c.part_places-places.result.now c.target.result c.as_open-general.ensures c.target.ensures.sound c.part_places-places.ensures.list c.target.ensures.place in
    subst (λ (pools : List ProblemPool). IfOk c.paths_between.result (λ paths. AreAllPaths pools c.args.problem.now.s c.args.problem.now.t (map hops_of paths.items))) ends.pools
    (subst (λ (t : Name). IfOk c.paths_between.result (λ paths. AreAllPaths general.pools c.args.problem.now.s t (map hops_of paths.items))) ends.target
    (subst (λ (s : Name). IfOk c.paths_between.result (λ paths. AreAllPaths general.pools s (name_at general c.target.result) (map hops_of paths.items))) ends.source c.paths_between.ensures))
