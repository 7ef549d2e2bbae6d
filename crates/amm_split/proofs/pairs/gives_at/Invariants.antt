use Rattle.std.proofs.Common.{◌≡◌, ◌<◌, ◌^◌, ℕ, map, take}
use Rattle.std.specs.Prelude.{All}
use Rattle.amm_model.specs.Paths.{gives}
use Rattle.amm_graph.specs.declared.path.Path.{Path}
use Rattle.amm_graph.specs.Hops.{hops_of}
use Rattle.amm_split.proofs.pairs.gives_at.Given as goal

abbrev pub invariant-loop-path : goal.invariant-loop-path
invariant-loop-path l = record {
  gives : l.table.items ≡ map (λ (path : Path). gives l.problem.pools (hops_of path) l.x) (take l.path-index l.paths);
  below : All (λ (amount : ℕ). amount < 2 ^ 48) l.table.items;
}
