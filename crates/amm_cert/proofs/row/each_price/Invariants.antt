use Rattle.std.proofs.Common.{◌≡◌, map, take, Ok}
use Rattle.serde_json.specs.View.{view}
use Rattle.amm_cert.specs.Rows.{each_price}
use Rattle.amm_cert.proofs.row.each_price.Given as goal

abbrev pub invariant-loop-i : goal.invariant-loop-i
invariant-loop-i l = each_price (take l.i l.tokens) (map view (take l.i l.values)) ≡ Ok l.found.items
