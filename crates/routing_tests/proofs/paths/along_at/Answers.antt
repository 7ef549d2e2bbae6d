use Rattle.std.proofs.Common.{◌<◌, List, false, arith, length, subst}
use Rattle.std.proofs.Math.ListN.{length-map}
use Rattle.std.proofs.lemmas.List.{get_or-map}
use Rattle.amm_model.specs.declared.route.Hop.{Hop}
use Rattle.amm_model.specs.Paths.{IsPath}
use Rattle.amm_graph.specs.declared.path.Path.{Path}
use Rattle.amm_graph.specs.Hops.{hops_of}
use Rattle.routing_tests.proofs.paths.along_at.Goals as goal

pub along-requires-clause-path : goal.along-requires-clause-path
along-requires-clause-path c =
    let hop : Hop = record { pool = 0; zero_in = false } in
    let none : Path = record { count = 0; hop0 = hop; hop1 = hop; hop2 = hop } in
    let all = c.args.all.now in
    let inside : c.args.place < length all = omega arith in
    subst (λ (hops : List Hop). IsPath c.args.problem.now.pools c.args.problem.now.s c.args.problem.now.t hops) (get_or-map hops_of all c.args.place none (hops_of none) inside)
    (c.requires.paths.sound c.args.place (hops_of none) (rw length-map inside))
