use Rattle.std.proofs.Common.{◌≡◌, map, take, Ok}
use Rattle.serde_json.specs.View.{view}
use Rattle.amm_model.specs.Json.{each}
use Rattle.amm_cert.specs.Rows.{as_leg}
use Rattle.amm_cert.proofs.row.each_leg.Given as goal

abbrev pub invariant-loop-value : goal.invariant-loop-value
invariant-loop-value l = each (as_leg l.pools) (map view (take l.value-index l.values)) ≡ Ok l.found.items
