-- What one command does and how it is answered. These words serve private functions alone.
use Rattle.std.specs.Prelude.{◌≡◌, ℕ, List, Result, Ok, Err}
use Rattle.amm_model.specs.declared.fault.Fault.{Fault}
use Rattle.amm_model.specs.declared.fault.Fault.TheVariants as fault
use Rattle.amm_model.specs.declared.fault.Refusal.{Refusal}
use Rattle.amm_model.specs.declared.reply.Answer.{Answer}
use Rattle.amm_model.specs.declared.reply.Answer.TheVariants.{Refused}
use Rattle.amm_model.specs.CommandView.{CommandView}
use Rattle.amm_model.specs.Ledger.{Ledger}
use Rattle.amm_model.specs.Outcome.{Outcome}
use Rattle.amm_model.specs.Meaning.{MayComeTo}
use Rattle.amm_model.specs.Answers.{answer_of, ledger_after}
use Rattle.amm_model.specs.ReplyText.{reply_text}
use Rattle.amm_model.specs.Sound.{IsAtRest}
use Rattle.amm_state.specs.Tx.{TxView, Meets, Lacks}
use Rattle.amm_state.specs.declared.mark.Mark.TheVariants.{Clean}

-- What the call did is an outcome that the command may come to.
pub record DoesOne (old new : TxView) (asked : CommandView) (result : Result Answer Fault) : Type 0 where
  pub outcome : Outcome Answer
  pub comes : MayComeTo old.present asked outcome
  pub meets : Meets old new result outcome

-- The call did what the command may come to, or wanted memory.
abbrev pub DoesCommand : TxView → TxView → CommandView → Result Answer Fault → Type 0
DoesCommand old new asked (Ok answer) = DoesOne old new asked (Ok answer)
DoesCommand old new asked (Err (fault.Refused why)) = DoesOne old new asked (Err (fault.Refused why))
DoesCommand old new asked (Err fault.Memory) = Lacks old new

-- The command came to an outcome that it may come to: the text is that of its reply, and the new
-- ledger is the one that it leaves.
pub record AnswersCommand (old : Ledger) (number : ℕ) (asked : CommandView) (text : List ℕ) (new : Ledger) : Type 0 where
  pub outcome : Outcome Answer
  pub comes : MayComeTo old asked outcome
  pub is : text ≡ reply_text (record { line = number; answer = answer_of outcome })
  pub left : new ≡ ledger_after old outcome

-- The command was accepted, and the text is that of its reply.
pub record Accepted (old : Ledger) (number : ℕ) (asked : CommandView) (text : List ℕ) (tx : TxView) : Type 0 where
  pub answer : Answer
  pub comes : MayComeTo old asked (Ok (record { ledger = tx.present; answer = answer }))
  pub is : text ≡ reply_text (record { line = number; answer = answer })
  pub clean : tx.mark ≡ Clean
  pub rest : IsAtRest tx.present

-- The command was refused, and the text is that of its reply.
pub record Declined (old : Ledger) (number : ℕ) (asked : CommandView) (text : List ℕ) : Type 0 where
  pub why : Refusal
  pub comes : MayComeTo old asked (Err why)
  pub is : text ≡ reply_text (record { line = number; answer = Refused why })
