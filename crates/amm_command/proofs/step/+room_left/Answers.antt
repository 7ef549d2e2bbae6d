use Rattle.std.proofs.Common.{◌≡◌, ◌+◌, ◌<◌, take, sym, ap, ◌∙◌, arith}
use Rattle.amm_model.specs.CommandView.{move_of_step, moves_of_steps}
use Rattle.amm_model.specs.Reading.{step_count, steps_inside}
use Rattle.amm_command.proofs.Room.{room_after-none, room_after-is_none, room_after-is_some}
use Rattle.amm_command.proofs.Steps.{step_count-next, step_count-around, steps_inside-flash, steps_inside-other}
use Rattle.amm_command.proofs.step.+room_left.Goals as goal
use Rattle.amm_command.proofs.step.+room_left.Goals.{in-Flash+in_ok-left-2, in_default}

pub returns-in_err-left : goal.returns-in_err-left
returns-in_err-left t c =
    let around = step_count-around c.args.steps.now c.loop-step.step-index c.step-item.result c.loop-step-test.true c.step-item.is in
    let h = c.in_err-left.ensures in
    let inv : c.loop-step.left + step_count (moves_of_steps (take c.loop-step.step-index c.args.steps.now)) ≡ c.args.room = c.loop-step.invariant in
    let below : c.args.room < step_count (moves_of_steps c.args.steps.now) = omega (arith, around, h, inv) in
    c.from_residual.ensures ∙ sym (room_after-none c.args.room (step_count (moves_of_steps c.args.steps.now)) below)

pub returns-in_err-left-2 : goal.returns-in_err-left-2
returns-in_err-left-2 t c =
    let around = step_count-around c.args.steps.now c.loop-step.step-index c.step-item.result c.loop-step-test.true c.step-item.is in
    let inv : c.loop-step.left + step_count (moves_of_steps (take c.loop-step.step-index c.args.steps.now)) ≡ c.args.room = c.loop-step.invariant in
    let inner : steps_inside (move_of_step c.step-item.result) ≡ step_count (moves_of_steps c.deref.result.now) =
    ap (λ s. steps_inside (move_of_step s)) c.in-Flash.is ∙ (steps_inside-flash _ _ _ c.in-Flash.steps ∙ ap (λ v. step_count (moves_of_steps v)) (sym c.deref.ensures.value)) in
    let short = room_after-is_none c.in_ok-left.left (step_count (moves_of_steps c.deref.result.now)) c.in_err-left-2.ensures in
    let sub = c.in_ok-left.ensures in
    let below : c.args.room < step_count (moves_of_steps c.args.steps.now) = omega (arith, around, inv, inner, short, sub) in
    c.from_residual-in_err-left-2.ensures ∙ sym (room_after-none c.args.room (step_count (moves_of_steps c.args.steps.now)) below)

pub loop-step-preserved : goal.loop-step-preserved
loop-step-preserved t c =
    let next = step_count-next c.args.steps.now c.loop-step.step-index c.step-item.result c.loop-step-test.true c.step-item.is in
    let inv : c.loop-step.left + step_count (moves_of_steps (take c.loop-step.step-index c.args.steps.now)) ≡ c.args.room = c.loop-step.invariant in
    let sub = c.in_ok-left.ensures in
    elim c.match-step.branch [
      | in-Flash+in_ok-left-2 w ↦ (
          let inner : steps_inside (move_of_step c.step-item.result) ≡ step_count (moves_of_steps w.deref.result.now) =
          ap (λ s. steps_inside (move_of_step s)) w.in-Flash.is ∙ (steps_inside-flash _ _ _ w.in-Flash.steps ∙ ap (λ v. step_count (moves_of_steps v)) (sym w.deref.ensures.value)) in
          let left = room_after-is_some c.in_ok-left.left (step_count (moves_of_steps w.deref.result.now)) w.in_ok-left-2.left w.in_ok-left-2.ensures in
          let is = w.left-is in
          omega (arith, next, inv, sub, inner, left, is)
          )
      | in_default w ↦ (
          let none = steps_inside-other c.step-item.result w.in_default.not-Flash in
          let is = w.left-is in
          omega (arith, next, inv, sub, none, is)
          )
    ]
