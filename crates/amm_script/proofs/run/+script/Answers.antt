use Rattle.std.proofs.Common.{subst, ◌∙◌, arith}
use Rattle.std.proofs.lemmas.Result.{err_from_is_err_and}
use Rattle.std.proofs.lemmas.Grind.{common_steps}
use Rattle.amm_model.specs.declared.command.Step.{the_lemmas}
use Rattle.amm_model.specs.CommandView.{moves_of_steps}
use Rattle.amm_model.specs.Fits.{FitMoves}
use Rattle.amm_model.proofs.Laters.{later_then, later_same}
use Rattle.amm_script.proofs.Steps.{inner_fit, still_open, next_move, no_more_moves, first_fault, one_less, all_done, flash_opened, not_lent, not_run, not_returned, returned, returned_later}
use Rattle.amm_script.proofs.Laws.{sync_later, mint_later, swap_later, swap_in_later, swap_out_later}
use Rattle.amm_script.proofs.run.+script.Goals as goal

pub run_steps-returns-in_err-run_step-clause-meets : goal.run_steps-returns-in_err-run_step-clause-meets
run_steps-returns-in_err-run_step-clause-meets t c =
    let p = err_from_is_err_and c.from_residual.result c.from_residual.ensures.1 in
    rw (p.1, p.2) (first_fault _ c.loop-step.tx _ _ _ _ _ (next_move _ _ _ c.loop-step-test.true c.step-item.is) c.loop-step.invariant.left _ _ c.loop-step.invariant.opening c.in_err-run_step.ensures.meets)

pub run_steps-loop-step-preserved : goal.run_steps-loop-step-preserved
run_steps-loop-step-preserved t c =
    let head = next_move c.args.steps.now c.loop-step.step-index c.step-item.result c.loop-step-test.true c.step-item.is in
    let accepted = c.in_ok-run_step.ensures.meets in
    record {
      clean = accepted.mark;
      opening = accepted.opening ∙ c.loop-step.invariant.opening;
      sound = c.in_ok-run_step.ensures.sound;
      later = later_then _ _ _ c.loop-step.invariant.later c.in_ok-run_step.ensures.later;
      fits = (subst FitMoves head c.loop-step.invariant.fits).1;
      left = one_less c.args.tx.now c.loop-step.tx _ _ _ _ _ head c.loop-step.invariant.left _ _ accepted;
    }

pub run_steps-returns-clause-meets : goal.run_steps-returns-clause-meets
run_steps-returns-clause-meets t c =
    record {
      gives = all_done c.args.tx.now c.loop-step.tx _ _ _ (no_more_moves c.args.steps.now c.loop-step.step-index (omega (arith, c.loop-step-test.false))) c.loop-step.invariant.left;
      opening = c.loop-step.invariant.opening;
      mark = c.loop-step.invariant.clean;
    }

pub flash-returns-in_err-loan-clause-meets : goal.flash-returns-in_err-loan-clause-meets
flash-returns-in_err-loan-clause-meets t c =
    let p = err_from_is_err_and c.from_residual.result c.from_residual.ensures.1 in
    let opened = (flash_opened c.args.tx.now.present c.args.actor.now c.args.pool.now c.args.out0 c.args.out1 (moves_of_steps c.args.steps.now)) in
    rw (p.1, p.2, opened) (not_lent c.args.actor.now c.args.pool.now c.args.out0 c.args.out1 (moves_of_steps c.args.steps.now) c.args.tx.now c.open_loan.new.tx c.in_err-loan.field-0.0 c.in_err-loan.ensures.meets)

pub flash-close_loan-requires-clause-open : goal.flash-close_loan-requires-clause-open
flash-close_loan-requires-clause-open t c = still_open _ _ _ c.in-Ok.ensures.later c.in_ok-loan.ensures.open

pub flash-returns-in_err-close_loan-in-Ok-clause-meets : goal.flash-returns-in_err-close_loan-in-Ok-clause-meets
flash-returns-in_err-close_loan-in-Ok-clause-meets t c =
    let p = err_from_is_err_and c.from_residual-in_err-close_loan-in-Ok.result c.from_residual-in_err-close_loan-in-Ok.ensures.1 in
    let opened = (flash_opened c.args.tx.now.present c.args.actor.now c.args.pool.now c.args.out0 c.args.out1 (moves_of_steps c.args.steps.now)) in
    rw (p.1, p.2, opened) (not_returned c.args.actor.now c.args.pool.now c.args.out0 c.args.out1 (moves_of_steps c.args.steps.now) c.args.tx.now c.open_loan.new.tx _ c.in_ok-loan.ensures.meets c.run_steps.new.tx c.in-Ok.ensures.meets c.close_loan.new.tx c.in_err-close_loan-in-Ok.field-0.0 c.in_err-close_loan-in-Ok.ensures.meets)

pub flash-returns-in_ok-close_loan-in-Ok-clause-meets : goal.flash-returns-in_ok-close_loan-in-Ok-clause-meets
flash-returns-in_ok-close_loan-in-Ok-clause-meets t c =
    let opened = (flash_opened c.args.tx.now.present c.args.actor.now c.args.pool.now c.args.out0 c.args.out1 (moves_of_steps c.args.steps.now)) in
    rw opened (returned c.args.actor.now c.args.pool.now c.args.out0 c.args.out1 (moves_of_steps c.args.steps.now) c.args.tx.now c.open_loan.new.tx _ c.in_ok-loan.ensures.meets c.run_steps.new.tx c.in-Ok.ensures.meets c.close_loan.new.tx _ c.in_ok-close_loan-in-Ok.ensures.meets)

pub flash-returns-in_ok-close_loan-in-Ok-clause-later : goal.flash-returns-in_ok-close_loan-in-Ok-clause-later
flash-returns-in_ok-close_loan-in-Ok-clause-later t c =
    returned_later c.args.actor.now c.args.pool.now c.args.out0 c.args.out1 (moves_of_steps c.args.steps.now) c.args.tx.now c.open_loan.new.tx _ c.in_ok-loan.ensures.meets c.run_steps.new.tx c.in-Ok.ensures.meets c.close_loan.new.tx _ c.in-Ok.ensures.later c.in_ok-close_loan-in-Ok.ensures.meets

pub flash-returns-in-Err-clause-meets : goal.flash-returns-in-Err-clause-meets
flash-returns-in-Err-clause-meets t c =
    let opened = (flash_opened c.args.tx.now.present c.args.actor.now c.args.pool.now c.args.out0 c.args.out1 (moves_of_steps c.args.steps.now)) in
    rw opened (not_run c.args.actor.now c.args.pool.now c.args.out0 c.args.out1 (moves_of_steps c.args.steps.now) c.args.tx.now c.open_loan.new.tx _ c.in_ok-loan.ensures.meets c.run_steps.new.tx c.in-Err.fault c.in-Err.ensures.meets)

pub run_step-flash-requires : goal.run_step-flash-requires
run_step-flash-requires t c =
    (grind (arith, common_steps, the_lemmas, c.in-Flash.is, c.deref.ensures.value), (c.requires.clean, (c.requires.sound, inner_fit c.args.step.now _ _ _ c.in-Flash.steps _ c.deref.ensures.value c.in-Flash.is c.requires.fits)))

pub run_step-returns-in_ok-pair-in-Sync-clause-later :
    goal.run_step-returns-in_ok-pair-in-Sync-clause-later
run_step-returns-in_ok-pair-in-Sync-clause-later t c = sync_later c.args.tx.now c.sync.new.tx _ _ c.in_ok-pair-in-Sync.ensures.meets

pub run_step-returns-in_ok-mint-in-Mint-clause-later :
    goal.run_step-returns-in_ok-mint-in-Mint-clause-later
run_step-returns-in_ok-mint-in-Mint-clause-later t c = mint_later c.args.tx.now c.mint.new.tx _ _ _ c.in_ok-mint-in-Mint.ensures.meets

pub run_step-returns-in_ok-swap-in-Swap-clause-later :
    goal.run_step-returns-in_ok-swap-in-Swap-clause-later
run_step-returns-in_ok-swap-in-Swap-clause-later t c = swap_later c.args.tx.now c.swap.new.tx _ _ _ _ _ c.in_ok-swap-in-Swap.ensures.meets

pub run_step-returns-in_ok-swap_exact_in-in-SwapIn-clause-later :
    goal.run_step-returns-in_ok-swap_exact_in-in-SwapIn-clause-later
run_step-returns-in_ok-swap_exact_in-in-SwapIn-clause-later t c =
    swap_in_later c.args.tx.now c.swap_exact_in.new.tx _ _ _ _ _ _ _ c.in_ok-swap_exact_in-in-SwapIn.ensures.meets

pub run_step-returns-in_ok-swap_exact_out-in-SwapOut-clause-later :
    goal.run_step-returns-in_ok-swap_exact_out-in-SwapOut-clause-later
run_step-returns-in_ok-swap_exact_out-in-SwapOut-clause-later t c =
    swap_out_later c.args.tx.now c.swap_exact_out.new.tx _ _ _ _ _ _ _ c.in_ok-swap_exact_out-in-SwapOut.ensures.meets
