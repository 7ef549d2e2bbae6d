-- Which lines trade along no route that was found.
use Rattle.amm_model.specs.declared.line.Line.{Line}
use Rattle.amm_model.specs.CommandView as command
use Rattle.amm_model.specs.CommandView.{CommandView, Move, Moves}
use Rattle.amm_model.specs.Runs.{OfCommand}

abbrev mutual
  -- A step that settles no quote, nor does a step inside.
  pub SettlesNone : Move → Type 0
  SettlesNone (command.settle number deadline) = ⊥
  SettlesNone (command.flash pool out0 out1 steps) = SettleNone steps
  SettlesNone step = Unit {0}

  pub SettleNone : Moves → Type 0
  SettleNone command.no_moves = Unit {0}
  SettleNone (command.move step steps) = SettlesNone step × SettleNone steps

-- A command that sells no basket, takes no cycle and settles no quote.
abbrev pub TakesNoRoute : CommandView → Type 0
TakesNoRoute (command.basket actor parts t min deadline) = ⊥
TakesNoRoute (command.cycle actor t deadline) = ⊥
TakesNoRoute (command.act actor step) = SettlesNone step
TakesNoRoute asked = Unit {0}

-- The command of a line is such a one, if the line has one.
abbrev pub LineTakesNoRoute : Line → Type 0
LineTakesNoRoute line = OfCommand line TakesNoRoute
