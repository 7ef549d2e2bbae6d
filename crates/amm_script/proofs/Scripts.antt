-- A flash swap whose borrower is a script does what the step of the same loan and steps does.
use Rattle.std.proofs.Common.{◌≡◌, ◌∙◌, ℕ, List, Result, Ok, Err, OnOk, inl, inr, refl, sym, ap}
use Rattle.std.specs.Prelude.{IfErr}
use Rattle.amm_names.specs.declared.holder.Holder.TheVariants as holders
use Rattle.amm_model.specs.declared.pair.SwapReceipt.{SwapReceipt}
use Rattle.amm_model.specs.declared.fault.Fault.{Fault}
use Rattle.amm_model.specs.declared.fault.Fault.TheVariants as faults
use Rattle.amm_model.specs.declared.reply.Answer.{Answer}
use Rattle.amm_model.specs.declared.reply.Answer.TheVariants as answers
use Rattle.amm_model.specs.Ledger.{Ledger}
use Rattle.amm_model.specs.Outcome.{Outcome}
use Rattle.amm_model.specs.Pools.{Terms}
use Rattle.amm_model.specs.Operations.{open_loan}
use Rattle.amm_model.specs.CommandView as view
use Rattle.amm_model.specs.CommandView.{Moves}
use Rattle.amm_model.specs.Meaning.{meaning, meaning_of_all}
use Rattle.amm_state.specs.declared.mark.Mark.TheVariants as mark
use Rattle.amm_state.specs.Tx.{TxView, Meets, mark_of}
use Rattle.amm_state.proofs.TxLemmas.{meets_same}
use Rattle.amm_flash.specs.End.{IsDone}
use Rattle.amm_flash.specs.Flash.{FlashAnswers, before_return}
use Rattle.amm_script.proofs.Steps.{flash_opened, not_lent, not_run, not_returned, returned}

-- the receipt of a flash swap, as the answer to a step
abbrev pub as_step_answer : Result SwapReceipt Fault → Result Answer Fault
as_step_answer (Ok receipt) = Ok (answers.Flash receipt)
as_step_answer (Err fault) = Err fault

-- a transaction like this one, with this ledger and a clean mark
abbrev at_ledger : TxView → Ledger → TxView
at_ledger old ledger = record { opening = old.opening; present = ledger; mark = mark.Clean }

module _ (actor pool : List ℕ) (out0 out1 : ℕ) (ms : Moves) (old new : TxView) (same : new.opening ≡ old.opening) where
  abbrev flashed : Outcome Answer
  flashed = meaning old.present actor (view.flash pool out0 out1 ms)

  pub flash_answers : (lent : Outcome Terms) (answer : Result SwapReceipt Fault) → open_loan old.present pool out0 out1 (holders.User actor) ≡ lent
      → FlashAnswers (λ before left end. IsDone (meaning_of_all before actor ms) left end) lent new.present answer
      → OnOk answer (new.mark ≡ mark.Clean) → IfErr answer (λ fault. new.mark ≡ mark_of fault) → Meets old new (as_step_answer answer) flashed
  flash_answers (Ok lent) (Ok receipt) lends told clean marked =
      meets_same old new (Ok (answers.Flash receipt)) _ _ (flash_opened old.present actor pool out0 out1 ms)
      (returned actor pool out0 out1 ms old (at_ledger old lent.ledger) lent.answer (record { gives = lends; opening = refl; mark = refl })
      (at_ledger old (before_return new.present lent.answer)) (record { gives = told.deed; opening = refl; mark = refl })
      new receipt (record { gives = told.gives; opening = same; mark = clean }))
  flash_answers (Ok lent) (Err (faults.Refused why)) lends (inl deed) clean marked =
      meets_same old new (Err (faults.Refused why)) _ _ (flash_opened old.present actor pool out0 out1 ms)
      (not_run actor pool out0 out1 ms old (at_ledger old lent.ledger) lent.answer (record { gives = lends; opening = refl; mark = refl })
      new (faults.Refused why) (record { gives = deed; opening = same; mark = marked }))
  flash_answers (Ok lent) (Err (faults.Refused why)) lends (inr both) clean marked =
      meets_same old new (Err (faults.Refused why)) _ _ (flash_opened old.present actor pool out0 out1 ms)
      (not_returned actor pool out0 out1 ms old (at_ledger old lent.ledger) lent.answer (record { gives = lends; opening = refl; mark = refl })
      (at_ledger old new.present) (record { gives = both.0; opening = refl; mark = refl })
      new (faults.Refused why) (record { gives = both.1; opening = same; mark = marked }))
  flash_answers (Ok lent) (Err faults.Memory) lends told clean marked = record { opening = same; mark = marked }
  flash_answers (Err code) (Ok receipt) lends told clean marked = absurd told
  flash_answers (Err code) (Err (faults.Refused why)) lends told clean marked =
      meets_same old new (Err (faults.Refused why)) _ _ (flash_opened old.present actor pool out0 out1 ms)
      (not_lent actor pool out0 out1 ms old new (faults.Refused why) (record { gives = lends ∙ ap Err (sym told); opening = same; mark = marked }))
  flash_answers (Err code) (Err faults.Memory) lends told clean marked = record { opening = same; mark = marked }
