-- A row's values and their bracket, taken from the front of a line and read as what they say.
use Rattle.std.specs.Prelude.{◌≡◌, ◌≤◌, ◌++◌, ℕ, List, Result, Ok}
use Rattle.json.specs.Lex.{Lexeme}
use Rattle.serde_json.specs.Data.{Data}
use Rattle.amm_model.specs.declared.fault.Refusal.{Refusal}
use Rattle.amm_model.specs.CommandView.{CommandView, Move}
use Rattle.amm_command.specs.Spelled.{rest_spelled, ArePlain, inner_depth}
use Rattle.amm_command.specs.Rows.{command_kind, command_values, move_kind, move_values}

-- the values of a command of this kind, which the row reads as the command
pub record CommandTaken (kind : List ℕ) (row : List Data → Result CommandView Refusal) (old new : List Lexeme) (c : CommandView) : Type 0 where
  pub kind_is : command_kind c ≡ kind
  pub text : old ≡ rest_spelled (command_values c) ++ new
  pub fits : row (command_values c) ≡ Ok c
  pub plain : ArePlain (command_values c)
  pub flat : inner_depth (command_values c) ≤ 17

-- the values of a step of this kind, which the row reads as the step, nested no deeper than so
pub record MoveTaken (deepest : ℕ) (actor kind : List ℕ) (row : List Data → Result Move Refusal) (old new : List Lexeme) (m : Move) : Type 0 where
  pub kind_is : move_kind m ≡ kind
  pub text : old ≡ rest_spelled (move_values actor m) ++ new
  pub fits : row (move_values actor m) ≡ Ok m
  pub plain : ArePlain (move_values actor m)
  pub flat : inner_depth (move_values actor m) ≤ deepest
