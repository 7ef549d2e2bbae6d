use Rattle.std.proofs.Common.{Ok, Err, refl}
use Rattle.std.proofs.lemmas.Result.{err_from_is_err_and}
use Rattle.amm_model.specs.CommandView.{moves_of_steps}
use Rattle.amm_script.proofs.Scripts.{flash_answers}
use Rattle.amm_script.proofs.borrower.flash_script.Goals as goal

pub returns-in_err-receipt-clause-meets : goal.returns-in_err-receipt-clause-meets
returns-in_err-receipt-clause-meets c =
    let p = err_from_is_err_and c.from_residual.result c.from_residual.ensures.1 in
    let told = c.in_err-receipt.ensures in
    rw (p.1, p.2)
    (flash_answers c.args.script.now.actor c.args.pool.now c.args.out0 c.args.out1 (moves_of_steps c.args.script.now.steps.items) c.args.tx.now c.flash.new.tx told.opening
    _ (Err c.in_err-receipt.field-0.0) refl told.answers told.accepted told.refused)

pub returns-clause-meets : goal.returns-clause-meets
returns-clause-meets c =
    let told = c.in_ok-receipt.ensures in
    flash_answers c.args.script.now.actor c.args.pool.now c.args.out0 c.args.out1 (moves_of_steps c.args.script.now.steps.items) c.args.tx.now c.flash.new.tx told.opening
    _ (Ok c.in_ok-receipt.receipt) refl told.answers told.accepted told.refused
