use Rattle.std.proofs.Common.{Ok, ap, sym}
use Rattle.std.proofs.lemmas.Result.{err_from_is_err_and}
use Rattle.serde_json.specs.View.{view}
use Rattle.amm_model.specs.Json.{each}
use Rattle.amm_model.proofs.Each.{each-next, each-fails}
use Rattle.amm_cert.specs.Rows.{as_problem_pool}
use Rattle.amm_cert.proofs.row.each_pool.Goals as goal

pub loop-value-init : goal.loop-value-init
unfolding each
loop-value-init c = ap Ok (sym c.in_ok-found.ensures.items)

pub returns-in_err-problem_pool : goal.returns-in_err-problem_pool
returns-in_err-problem_pool c =
    let p = err_from_is_err_and c.from_residual-in_err-problem_pool.result c.from_residual-in_err-problem_pool.ensures.1 in
    rw (p.1, p.2) (each-fails as_problem_pool view c.args.values.now c.loop-value.value-index c.value-item.result c.loop-value.found.items c.in_err-problem_pool.field-0.0 c.loop-value-test.true c.value-item.is c.loop-value.invariant c.in_err-problem_pool.ensures)

pub loop-value-preserved : goal.loop-value-preserved
loop-value-preserved c =
    rw c.in_ok-push.ensures.items (each-next as_problem_pool view c.args.values.now c.loop-value.value-index c.value-item.result c.loop-value.found.items c.in_ok-problem_pool.field-0 c.loop-value-test.true c.value-item.is c.loop-value.invariant c.in_ok-problem_pool.ensures)
