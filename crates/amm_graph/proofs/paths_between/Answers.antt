use Rattle.std.proofs.Common.{List, arith, ap, sym, subst, map}
use Rattle.amm_model.specs.declared.route.Hop.{Hop}
use Rattle.amm_model.specs.Paths.{AreAllPaths}
use Rattle.amm_model.specs.Routing.{no_pool}
use Rattle.amm_model.proofs.Problems.{tokens_differ}
use Rattle.amm_graph.specs.Hops.{hops_of}
use Rattle.amm_graph.proofs.Sides.{name_at, names_apart}
use Rattle.amm_graph.proofs.Walks.{all_added}
use Rattle.amm_graph.proofs.AllPaths.{all_paths}
use Rattle.amm_graph.proofs.paths_between.Goals as goal

pub returns : goal.returns
returns c =
    let problem = c.args.problem.now in
    let s = name_at problem c.args.from in
    let t = name_at problem c.args.to in
    let sound = c.target-sound.ensures.sound in
    let is = all_added (map hops_of c.extend.new.found.items) _ _ _ problem.pools s t s c.in_ok-extend.ensures (ap (map hops_of) c.new-found.ensures.items) c.empty.ensures.hops (omega (arith, c.empty.ensures.count)) in
    subst (λ (ls : List (List Hop)). AreAllPaths problem.pools s t ls) (sym is)
    (all_paths problem.pools s t (λ k below. tokens_differ problem.pools sound.spelled.each k no_pool below)
    (names_apart problem sound c.args.from c.args.to c.requires.from c.requires.to c.requires.apart))
