-- What the program has done.
use Rattle.std.specs.Prelude.{◌≡◌, ◌++◌, ℕ, List, [], Option, Some}
use Rattle.amm_model.specs.declared.reply.Reply.{Reply}
use Rattle.amm_model.specs.Ledger.{Ledger, opening_ledger}
use Rattle.amm_model.specs.Lines.{lines_of}
use Rattle.amm_model.specs.Runs.{FairRun, output_of}
use Rattle.amm_history.specs.History.{TellsAverages}

-- Nothing of the input is left, and what is written is what was written before, followed by the
-- output of a run from the opening ledger over all lines of the input, in which the averages of the
-- price oracle are the time-weighted ones.
pub record RepliesToAll (input before : List ℕ) (left written : Option (List ℕ)) : Type 0 where
  pub nothing_left : left ≡ Some []
  pub replies : List Reply
  pub final : Ledger
  pub run : FairRun opening_ledger 1 (lines_of input) replies final
  pub averages : TellsAverages opening_ledger 1 (lines_of input) replies
  pub output : written ≡ Some (before ++ output_of replies)
