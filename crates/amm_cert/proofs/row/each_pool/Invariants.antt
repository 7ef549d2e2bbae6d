use Rattle.std.proofs.Common.{◌≡◌, map, take, Ok}
use Rattle.serde_json.specs.View.{view}
use Rattle.amm_model.specs.Json.{each}
use Rattle.amm_cert.specs.Rows.{as_problem_pool}
use Rattle.amm_cert.proofs.row.each_pool.Given as goal

abbrev pub invariant-loop-value : goal.invariant-loop-value
invariant-loop-value l = each as_problem_pool (map view (take l.value-index l.values)) ≡ Ok l.found.items
