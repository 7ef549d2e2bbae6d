use Rattle.std.proofs.Common.{◌≡◌, map, take}
use Rattle.amm_model.specs.Routing.{places_of}
use Rattle.amm_model.proofs.parts.places_of.Given as goal

abbrev pub invariant-loop-pool : goal.invariant-loop-pool
invariant-loop-pool l = l.places.items ≡ map (places_of l.tokens) (take l.pool-index l.pools)
