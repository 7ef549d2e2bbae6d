-- The steps of a loan as they are plainly written, and as they are read.
use Rattle.std.specs.Prelude.{◌≡◌, ◌≤◌, ◌+◌, ◌*◌, ℕ, List, map, ◌++◌, Ok}
use Rattle.json.specs.Lex.{Lexeme}
use Rattle.serde_json.specs.Data.{depth}
use Rattle.serde_json.specs.View.{items_of}
use Rattle.amm_model.specs.Json.{each}
use Rattle.amm_model.specs.CommandView.{Move}
use Rattle.amm_model.specs.Reading.{as_step, as_steps}
use Rattle.amm_command.specs.Spelled.{spelled, first_spelled, leading, IsPlain, ArePlain, inner_depth}
use Rattle.amm_command.specs.Rows.{step_value}

-- a step, taken from the front of a text, where so many loans may be open
pub record StepRead (loans : ℕ) (actor : List ℕ) (old new : List Lexeme) (m : Move) : Type 0 where
  pub text : old ≡ spelled (step_value actor m) ++ new
  pub fits : as_step (as_steps loans actor) actor (step_value actor m) ≡ Ok m
  pub plain : IsPlain (step_value actor m)
  pub shallow : depth (step_value actor m) ≤ 2 * loans + 2

-- what is known of steps in turn
pub record Steps (loans : ℕ) (actor : List ℕ) (ms : List Move) : Type 0 where
  pub fits : each (as_step (as_steps loans actor) actor) (map (step_value actor) ms) ≡ Ok ms
  pub plain : ArePlain (map (step_value actor) ms)
  pub shallow : inner_depth (map (step_value actor) ms) ≤ 2 * loans + 2

-- steps, each with a comma behind it
pub record StepsLead (loans : ℕ) (actor : List ℕ) (old new : List Lexeme) (ms : List Move) : Type 0 where
  pub text : old ≡ leading (map (step_value actor) ms) ++ new
  pub steps : Steps loans actor ms

-- steps to their bracket
pub record StepsRead (loans : ℕ) (actor : List ℕ) (old new : List Lexeme) (ms : List Move) : Type 0 where
  pub text : old ≡ first_spelled (items_of (map (step_value actor) ms)) ++ new
  pub steps : Steps loans actor ms
