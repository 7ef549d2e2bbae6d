-- What contracts see of a path.
use Rattle.std.specs.Prelude.{List, [], ◌∷◌, take}
use Rattle.amm_model.specs.declared.route.Hop.{Hop}
use Rattle.amm_graph.specs.declared.path.Path.{Path}

-- The hops up to the count.
abbrev pub hops_of : Path → List Hop
hops_of path = take path.count (path.hop0 ∷ path.hop1 ∷ path.hop2 ∷ [])
