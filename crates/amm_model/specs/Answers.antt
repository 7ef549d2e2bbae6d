-- What a line may come to in a ledger, and what then is answered and left.
use Rattle.std.specs.Prelude.{◌≡◌, Ok, Err, MatchResult}
use Rattle.amm_model.specs.declared.fault.Refusal.TheVariants.{LongLine}
use Rattle.amm_model.specs.declared.line.Line.{Line}
use Rattle.amm_model.specs.declared.line.Line.TheVariants.{Blank, Whole, Long}
use Rattle.amm_model.specs.declared.reply.Answer.{Answer}
use Rattle.amm_model.specs.declared.reply.Answer.TheVariants.{Refused}
use Rattle.amm_model.specs.Outcome.{Outcome}
use Rattle.amm_model.specs.Ledger.{Ledger}
use Rattle.amm_model.specs.Reading.{command_of_line}
use Rattle.amm_model.specs.Meaning.{MayComeTo}

-- A line comes to what its command may come to, or to the code that says why it is none. A blank
-- line comes to nothing.
unfoldable pub ComesTo : Ledger → Line → Outcome Answer → Type 0
ComesTo ledger Blank outcome = ⊥
ComesTo ledger Long outcome = outcome ≡ Err LongLine
ComesTo ledger (Whole bytes) outcome = MatchResult (command_of_line bytes) (λ asked. MayComeTo ledger asked outcome) (λ why. outcome ≡ Err why)

-- the answer that tells an outcome
abbrev pub answer_of : Outcome Answer → Answer
answer_of (Ok made) = made.answer
answer_of (Err why) = Refused why

-- the ledger that an outcome leaves: after a refusal the old one
abbrev pub ledger_after : Ledger → Outcome Answer → Ledger
ledger_after old (Ok made) = made.ledger
ledger_after old (Err why) = old
