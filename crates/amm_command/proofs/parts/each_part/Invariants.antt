use Rattle.std.proofs.Common.{◌≡◌, map, take, Ok}
use Rattle.serde_json.specs.View.{view}
use Rattle.amm_model.specs.Json.{each}
use Rattle.amm_model.specs.Forms.{as_part}
use Rattle.amm_command.proofs.parts.each_part.Given as goal

abbrev pub invariant-loop-value : goal.invariant-loop-value
invariant-loop-value l = each as_part (map view (take l.value-index l.values)) ≡ Ok l.found.items
