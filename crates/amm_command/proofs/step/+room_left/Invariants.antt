use Rattle.std.proofs.Common.{◌≡◌, ◌+◌, take}
use Rattle.amm_model.specs.CommandView.{moves_of_steps}
use Rattle.amm_model.specs.Reading.{step_count}
use Rattle.amm_command.proofs.step.+room_left.Given as goal

abbrev pub invariant-loop-step : goal.invariant-loop-step
invariant-loop-step l = l.left + step_count (moves_of_steps (take l.step-index l.steps)) ≡ l.room
