-- What a service of lines has done, where the source and the sink tell their bytes.
use Rattle.std.specs.Prelude.{◌≡◌, ◌⊎◌, ◌+◌, ◌++◌, ◌≤◌, ℕ, List, [], ◌∷◌, length, take, Option}
use Rattle.std.specs.Io.KnownBytes.{Appends, Consumes, IsAtEnd}
use Rattle.amm_io.specs.Traffic.{AppendsPart}
use Rattle.amm_model.specs.declared.line.Line.{Line}
use Rattle.amm_model.specs.declared.reply.Reply.{Reply}
use Rattle.amm_model.specs.Ledger.{Ledger}
use Rattle.amm_model.specs.Lines.{lines_of, ended_lines_of}
use Rattle.amm_model.specs.Runs.{FairRun, FairStep, output_of}
use Rattle.amm_history.specs.History.{TellsAverages}

-- The text is that of the replies which the line with this number may have in the old ledger, and
-- they leave the new one.
pub record AnswersLine (old : Ledger) (number : ℕ) (line : Line) (text : List ℕ) (new : Ledger) : Type 0 where
  pub replies : List Reply
  pub step : FairStep old number line replies new
  pub is : text ≡ output_of replies

-- All lines were answered: the sink took the output of a run over them, from the old ledger to the
-- new, in which the averages of the price oracle are the time-weighted ones.
pub record AnswersAll (old : Ledger) (lines : List Line) (before after : Option (List ℕ)) (new : Ledger) : Type 0 where
  pub replies : List Reply
  pub run : FairRun old 1 lines replies new
  pub averages : TellsAverages old 1 lines replies
  pub written : Appends before after (output_of replies)

-- All lines but the last were answered, and of the reply to the last a part was written, but not
-- all. The new ledger is the one after the last line too.
pub record StopsInReply (old : Ledger) (lines : List Line) (before after : Option (List ℕ)) (new : Ledger) : Type 0 where
  pub front : List Line
  pub line : Line
  pub split : lines ≡ front ++ line ∷ []
  pub between : Option (List ℕ)
  pub reached : Ledger
  pub answered : AnswersAll old front before between reached
  pub text : List ℕ
  pub next : AnswersLine reached (1 + length front) line text new
  pub part : AppendsPart between after text

-- The bytes are whole lines: there are none, or they end in a newline, or the input ends with them.
abbrev pub AreWholeLines : List ℕ → Option (List ℕ) → List ℕ → Type 0
AreWholeLines bytes left_after past =
    (bytes ≡ []) ⊎ ((body : List ℕ) × (bytes ≡ body ++ 10 ∷ [])) ⊎ ((past ≡ []) × IsAtEnd left_after)

-- All the input was taken, within the limit, and all its lines were answered.
pub record ServesAll (limit : ℕ) (left_before left_after written_before written_after : Option (List ℕ)) (old new : Ledger) : Type 0 where
  pub input : List ℕ
  pub taken : Consumes left_before left_after input
  pub within : length input ≤ limit
  pub at_end : IsAtEnd left_after
  pub answered : AnswersAll old (lines_of input) written_before written_after new

-- The lines that a newline ended among the bytes taken, which are within the limit, were answered.
pub record ServesEnded (limit : ℕ) (left_before left_after written_before written_after : Option (List ℕ)) (old new : Ledger) : Type 0 where
  pub input : List ℕ
  pub taken : Consumes left_before left_after input
  pub within : length input ≤ limit
  pub answered : AnswersAll old (ended_lines_of input) written_before written_after new

-- The byte after the limit was taken, and the lines that a newline ended within the limit were
-- answered.
pub record ServesToLimit (limit : ℕ) (left_before left_after written_before written_after : Option (List ℕ)) (old new : Ledger) : Type 0 where
  pub input : List ℕ
  pub taken : Consumes left_before left_after input
  pub passed : length input ≡ limit + 1
  pub answered : AnswersAll old (ended_lines_of (take limit input)) written_before written_after new

-- All lines up to one were answered, and of the reply to that one a part was written, but not all.
-- Of what comes after it few bytes were taken.
pub record BreaksOff (limit : ℕ) (left_before left_after written_before written_after : Option (List ℕ)) (old new : Ledger) : Type 0 where
  pub through : List ℕ
  pub past : List ℕ
  pub taken : Consumes left_before left_after (through ++ past)
  pub most : length (through ++ past) ≤ limit + 1
  pub whole : AreWholeLines through left_after past
  pub near : length past ≤ 131072
  pub answered : StopsInReply old (lines_of through) written_before written_after new

-- Some first lines were answered, and maybe a part of the reply to the last of them is missing.
pub record LacksMemory (limit : ℕ) (left_before left_after written_before written_after : Option (List ℕ)) (old new : Ledger) : Type 0 where
  pub through : List ℕ
  pub past : List ℕ
  pub taken : Consumes left_before left_after (through ++ past)
  pub most : length (through ++ past) ≤ limit + 1
  pub whole : AreWholeLines through left_after past
  pub answered : AnswersAll old (lines_of through) written_before written_after new ⊎ StopsInReply old (lines_of through) written_before written_after new
