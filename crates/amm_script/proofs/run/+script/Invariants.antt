use Rattle.std.proofs.Common.{◌≡◌, drop}
use Rattle.amm_model.specs.CommandView.{moves_of_steps}
use Rattle.amm_model.specs.Fits.{FitMoves}
use Rattle.amm_model.specs.Later.{Later}
use Rattle.amm_model.specs.Meaning.{meaning_of_all}
use Rattle.amm_model.specs.Sound.{IsSound}
use Rattle.amm_state.specs.declared.mark.Mark.TheVariants as mark
use Rattle.amm_script.proofs.run.+script.Given as goal

abbrev pub invariant-run_steps-loop-step : goal.invariant-run_steps-loop-step
invariant-run_steps-loop-step l = record {
  clean : l.tx.mark ≡ mark.Clean;
  opening : l.tx.opening ≡ l.initial.tx.opening;
  sound : IsSound l.tx.present;
  later : Later l.initial.tx.present l.tx.present;
  fits : FitMoves (moves_of_steps (drop l.step-index l.steps));
  left : meaning_of_all l.tx.present l.actor (moves_of_steps (drop l.step-index l.steps)) ≡ meaning_of_all l.initial.tx.present l.actor (moves_of_steps l.steps);
}
