use Rattle.std.proofs.Common.{◌+◌, ◌*◌, map}
use Rattle.amm_model.specs.CommandView.{move_of_step}
use Rattle.amm_command.specs.Front.{ahead}
use Rattle.amm_command.specs.Loans.{StepsLead}
use Rattle.amm_command.proofs.plain.loan.+loans.Given as goal

abbrev pub decreases-steps : goal.decreases-steps
decreases-steps l = 8 * l.loans

abbrev pub decreases-flash : goal.decreases-flash
decreases-flash l = 8 * l.loans + 1

abbrev pub decreases-move_row : goal.decreases-move_row
decreases-move_row l = 8 * l.loans + 2

abbrev pub decreases-step : goal.decreases-step
decreases-step l = 8 * l.loans + 3

abbrev pub decreases-some_steps : goal.decreases-some_steps
decreases-some_steps l = 8 * l.loans + 4

abbrev pub decreases-each_step : goal.decreases-each_step
decreases-each_step l = 8 * l.loans + 5

abbrev pub invariant-some_steps-steps : goal.invariant-some_steps-steps
invariant-some_steps-steps l = StepsLead l.loans l.actor (ahead l.initial.line) (ahead l.line) (map move_of_step l.found.items)
