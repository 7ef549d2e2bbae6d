use Rattle.std.proofs.Common.{Ok, sym, ap}
use Rattle.std.proofs.lemmas.Result.{err_from_is_err_and}
use Rattle.serde_json.specs.View.{view}
use Rattle.amm_model.specs.Json.{each}
use Rattle.amm_model.specs.Forms.{as_part}
use Rattle.amm_model.proofs.Each.{each-next, each-fails}
use Rattle.amm_command.proofs.parts.each_part.Goals as goal

pub loop-value-init : goal.loop-value-init
unfolding each
loop-value-init c = ap Ok (sym c.new-found.ensures.items)

pub returns-in_err-part : goal.returns-in_err-part
returns-in_err-part c =
    let p = err_from_is_err_and c.from_residual.result c.from_residual.ensures.1 in
    rw (p.1, p.2) (each-fails as_part view c.args.values.now c.loop-value.value-index c.value-item.result c.loop-value.found.items c.in_err-part.field-0.0 c.loop-value-test.true c.value-item.is c.loop-value.invariant c.in_err-part.ensures)

pub loop-value-preserved : goal.loop-value-preserved
loop-value-preserved c =
    rw c.in_ok-push.ensures.items (each-next as_part view c.args.values.now c.loop-value.value-index c.value-item.result c.loop-value.found.items c.in_ok-part.field-0 c.loop-value-test.true c.value-item.is c.loop-value.invariant c.in_ok-part.ensures)
