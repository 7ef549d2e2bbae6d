use Rattle.std.proofs.Common.{◌≡◌, map, take}
use Rattle.amm_model.specs.Routing.{part_place}
use Rattle.amm_model.proofs.parts.part_places_of.Given as goal

abbrev pub invariant-loop-part : goal.invariant-loop-part
invariant-loop-part l = l.places.items ≡ map (part_place l.tokens) (take l.part-index l.parts)
