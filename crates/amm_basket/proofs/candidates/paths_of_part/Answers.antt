use Rattle.std.proofs.Common.{◌∙◌, ap, sym, subst, map, IfOk, get_or}
use Rattle.amm_model.specs.Paths.{AreAllPaths}
use Rattle.amm_names.specs.Names.{Name}
use Rattle.amm_graph.specs.Hops.{hops_of}
use Rattle.amm_graph.proofs.Sides.{name_at}
use Rattle.amm_basket.specs.Candidates.{no_part}
use Rattle.amm_basket.proofs.InTurn.{part_named, target_named}
use Rattle.amm_basket.proofs.candidates.paths_of_part.Goals as goal

pub paths_between-requires-clause-apart : goal.paths_between-requires-clause-apart
paths_between-requires-clause-apart c e =
    let problem = c.args.problem.now in
    let part = part_named problem c.part_places-places.result.now c.args.i c.target.ensures.sound c.requires c.part_places-places.ensures.list in
    let target = target_named problem c.target.result c.target.ensures.sound c.target.ensures.place in
    c.target.ensures.sound.parts.apart c.args.i no_part c.requires (sym part ∙ ap (name_at problem) e ∙ target)

pub returns : goal.returns
returns c =
    let problem = c.args.problem.now in
    let part = part_named problem c.part_places-places.result.now c.args.i c.target.ensures.sound c.requires c.part_places-places.ensures.list in
    let target = target_named problem c.target.result c.target.ensures.sound c.target.ensures.place in
    subst (λ (t : Name). IfOk c.paths_between.result (λ paths. AreAllPaths problem.pools (get_or problem.parts c.args.i no_part).token t (map hops_of paths.items))) target
    (subst (λ (s : Name). IfOk c.paths_between.result (λ paths. AreAllPaths problem.pools s (name_at problem c.target.result) (map hops_of paths.items))) part c.paths_between.ensures)
