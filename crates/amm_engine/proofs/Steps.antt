-- What one line's answer is.
use Rattle.std.proofs.Common.{◌≡◌, ◌∙◌, ℕ, List, [], Ok, Err, subst, sym, refl, arith}
use Rattle.std.proofs.lemmas.List.{append-nil}
use Rattle.amm_model.specs.declared.fault.Refusal.{Refusal}
use Rattle.amm_model.specs.declared.fault.Refusal.TheVariants.{LongLine}
use Rattle.amm_model.specs.declared.line.Line.{Line}
use Rattle.amm_model.specs.declared.line.Line.TheVariants.{Blank, Whole, Long}
use Rattle.amm_model.specs.declared.reply.Answer.{Answer}
use Rattle.amm_model.specs.declared.reply.Answer.TheVariants.{Refused}
use Rattle.amm_model.specs.CommandView.{CommandView}
use Rattle.amm_model.specs.Ledger.{Ledger}
use Rattle.amm_model.specs.Answers.{answer_of, ledger_after}
use Rattle.amm_model.specs.Reading.{command_of_line}
use Rattle.amm_model.specs.Runs.{Step, FairStep, one_reply}
use Rattle.amm_model.specs.Sound.{IsAtRest}
use Rattle.amm_model.specs.ReplyText.{reply_text}
use Rattle.amm_engine.proofs.Fair.{fair_long, fair_unread, fair_asked}
use Rattle.amm_state.specs.Tx.{TxView}
use Rattle.amm_engine.specs.Commands.{AnswersCommand, Accepted, Declined}
use Rattle.amm_engine.specs.Service.{AnswersLine}

-- a blank line has no reply
pub AnswersLine-blank : (old : Ledger) (number : ℕ) (text : List ℕ) → IsAtRest old → text ≡ [] → AnswersLine old number Blank text old
unfolding Step
AnswersLine-blank old number text rest is =
    record {
      replies = [];
      step = record {
        step = (refl, refl);
        rest = rest;
        refused = λ why one. refl;
        zero = λ q. omega arith;
        totals = λ answer one name. refl;
        settled = λ answer one. tt;
        traded = λ answer one. tt;
        unbeaten = λ answer one. cc;
      };
      is = is;
    }

-- any other line has one
one_line : (old : Ledger) (number : ℕ) (line : Line) (answer : Answer) (text : List ℕ) (new : Ledger) → FairStep old number line (one_reply number answer) new
    → text ≡ reply_text (record { line = number; answer = answer }) → AnswersLine old number line text new
one_line old number line answer text new step is = record { replies = one_reply number answer; step = step; is = is ∙ sym (append-nil _) }

pub AnswersLine-long : (old : Ledger) (number : ℕ) (text : List ℕ) → IsAtRest old → text ≡ reply_text (record { line = number; answer = Refused LongLine })
    → AnswersLine old number Long text old
AnswersLine-long old number text rest is = one_line old number Long (Refused LongLine) text old (fair_long old number rest) is

pub AnswersLine-unread : (old : Ledger) (number : ℕ) (bytes : List ℕ) (why : Refusal) (text : List ℕ) → IsAtRest old → command_of_line bytes ≡ Err why
    → text ≡ reply_text (record { line = number; answer = Refused why }) → AnswersLine old number (Whole bytes) text old
AnswersLine-unread old number bytes why text rest read is = one_line old number (Whole bytes) (Refused why) text old (fair_unread old number bytes why rest read) is

pub AnswersLine-asked : (old : Ledger) (number : ℕ) (bytes : List ℕ) (asked : CommandView) (text : List ℕ) (new : Ledger) → IsAtRest old → command_of_line bytes ≡ Ok asked
    → AnswersCommand old number asked text new → AnswersLine old number (Whole bytes) text new
AnswersLine-asked old number bytes asked text new rest read a =
    subst (λ (l : Ledger). AnswersLine old number (Whole bytes) text l) (sym a.left)
    (one_line old number (Whole bytes) (answer_of a.outcome) text (ledger_after old a.outcome) (fair_asked old number bytes asked a.outcome rest read a.comes) a.is)

-- a command that was accepted, and whose ledger is kept
pub AnswersCommand-kept : (old : Ledger) (number : ℕ) (asked : CommandView) (text : List ℕ) (tx : TxView) (new : Ledger) → Accepted old number asked text tx → new ≡ tx.present
    → AnswersCommand old number asked text new
AnswersCommand-kept old number asked text tx new a is =
    record { outcome = Ok (record { ledger = tx.present; answer = a.answer }); comes = a.comes; is = a.is; left = is }

-- a command that was refused, and whose ledger is taken back
pub AnswersCommand-refused : (old : Ledger) (number : ℕ) (asked : CommandView) (text : List ℕ) (new : Ledger) → Declined old number asked text → new ≡ old
    → AnswersCommand old number asked text new
AnswersCommand-refused old number asked text new d is = record { outcome = Err d.why; comes = d.comes; is = d.is; left = is }
