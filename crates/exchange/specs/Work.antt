-- What the word `work` writes: the two counts of a run over the lines of a seed.
use Rattle.std.specs.Prelude.{◌≡◌, ◌+◌, ◌++◌, ℕ, List, [], ◌∷◌, codes, Option}
use Rattle.std.specs.Io.KnownBytes.{Appends}
use Rattle.serde_json.specs.Data.{Data, string}
use Rattle.serde_json.specs.Written.{compact_text}
use Rattle.amm_io.specs.Traffic.{AppendsPart}
use Rattle.amm_model.specs.declared.reply.Reply.{Reply}
use Rattle.amm_model.specs.Json.{list, whole}
use Rattle.amm_model.specs.Ledger.{Ledger, opening_ledger}
use Rattle.amm_model.specs.Lines.{lines_of}
use Rattle.amm_model.specs.Runs.{FairRun}
use Rattle.amm_verdicts.specs.Verdicts.{accepted_in, refused_in}
use Rattle.amm_work.specs.Commands.{work_bytes}

-- These many of the replies of a run from the opening ledger over the lines of the seed accept, and
-- these many refuse. Each line has a reply.
pub record CountsRun (seed count accepted refused : ℕ) : Type 0 where
  pub replies : List Reply
  pub final : Ledger
  pub run : FairRun opening_ledger 1 (lines_of (work_bytes seed count)) replies final
  pub accepts : accepted ≡ accepted_in replies
  pub refuses : refused ≡ refused_in replies
  pub all : accepted + refused ≡ count

-- the words and the two counts, as a JSON value
abbrev pub work_value : ℕ → ℕ → ℕ → ℕ → Data
work_value seed count accepted refused = list (string (codes "work") ∷ whole seed ∷ whole count ∷ whole accepted ∷ whole refused ∷ [])

-- the line of the counts: the compact text and a newline
unfoldable pub work_line : ℕ → ℕ → ℕ → ℕ → List ℕ
work_line seed count accepted refused = compact_text (work_value seed count accepted refused) ++ 10 ∷ []

-- The line of the counts was written.
pub record TellsCounts (seed count : ℕ) (before after : Option (List ℕ)) : Type 0 where
  pub accepted : ℕ
  pub refused : ℕ
  pub counted : CountsRun seed count accepted refused
  pub written : Appends before after (work_line seed count accepted refused)

-- Of the line of the counts a part was written, but not all.
pub record CutsCounts (seed count : ℕ) (before after : Option (List ℕ)) : Type 0 where
  pub accepted : ℕ
  pub refused : ℕ
  pub counted : CountsRun seed count accepted refused
  pub part : AppendsPart before after (work_line seed count accepted refused)
