-- A loan that the borrower leaves open, and its return.
use Rattle.std.proofs.Common.{◌≡◌, ℕ, List, inr, Result, Ok, Err, sym, subst, OnOk, OnErr}
use Rattle.amm_names.specs.declared.holder.Holder.{Holder}
use Rattle.amm_model.specs.declared.pair.SwapReceipt.{SwapReceipt}
use Rattle.amm_model.specs.declared.fault.Fault.{Fault}
use Rattle.amm_model.specs.declared.fault.Fault.TheVariants as fault
use Rattle.amm_model.specs.Ledger.{Ledger}
use Rattle.amm_model.specs.Outcome.{Made}
use Rattle.amm_model.specs.Pools.{Terms}
use Rattle.amm_model.specs.Operations.{open_loan, give_back}
use Rattle.amm_model.specs.Sound.{IsOpen, ProductKept}
use Rattle.amm_model.specs.Later.{Later}
use Rattle.amm_state.specs.Tx.{TxView, Meets}
use Rattle.amm_state.specs.declared.mark.Mark.{Mark}
use Rattle.amm_state.specs.declared.mark.Mark.TheVariants as mark
use Rattle.amm_pair.proofs.Laters.{give_back_undone, Opened, open_loan_lends, later_loan, loan_product}
use Rattle.amm_flash.specs.Flash.{FlashAnswers, before_return}

-- a loan that was open stays so
pub open_later : (old new : Ledger) (loan : Terms) → IsOpen old loan → Later old new → IsOpen new loan
open_later old new loan opened later = record { there = later.locked loan.pool loan.pair opened.there opened.locked; locked = opened.locked }

module _ (did : Ledger → Ledger → Mark → Type 0) (lent : Made Terms) (mid new : TxView)
    (opened : IsOpen mid.present lent.answer) (later : Later lent.ledger mid.present) (deed : did lent.ledger mid.present mark.Clean) where
  pub return_answers : (answer : Result SwapReceipt Fault) → Meets mid new answer (give_back mid.present lent.answer.pool lent.answer.out0 lent.answer.out1)
      → OnErr answer (new.present ≡ mid.present) → FlashAnswers did (Ok lent) new.present answer
  return_answers (Ok receipt) meets kept =
      let back : mid.present ≡ before_return new.present lent.answer = sym (give_back_undone mid.present lent.answer.pool lent.answer.out0 lent.answer.out1 _ lent.answer.pair opened.there meets.gives) in
      record {
        promise = subst (λ (l : Ledger). Later lent.ledger l) back later;
        deed = subst (λ (l : Ledger). did lent.ledger l mark.Clean) back deed;
        gives = subst (λ (l : Ledger). give_back l lent.answer.pool lent.answer.out0 lent.answer.out1 ≡ Ok (record { ledger = new.present; answer = receipt })) back meets.gives;
      }
  return_answers (Err (fault.Refused why)) meets kept =
      inr (subst (λ (l : Ledger). did lent.ledger l mark.Clean × (give_back l lent.answer.pool lent.answer.out0 lent.answer.out1 ≡ Err why)) (sym kept) (deed, meets.gives))
  return_answers (Err fault.Memory) meets kept = tt

module _ (old : Ledger) (pool : List ℕ) (out0 out1 : ℕ) (to : Holder) (lent : Made Terms) (lends : open_loan old pool out0 out1 to ≡ Ok lent) where
  o : Opened old pool out0 out1 to lent
  o = open_loan_lends old pool out0 out1 to lent lends

  module _ (mid new : TxView) (within : Later lent.ledger mid.present) (answer : Result SwapReceipt Fault) (meets : Meets mid new answer (give_back mid.present lent.answer.pool lent.answer.out0 lent.answer.out1)) where
    within_lent : Later o.lent.ledger mid.present
    within_lent = subst (λ (l : Ledger). Later l mid.present) o.left within

    returns : (receipt : SwapReceipt) → give_back mid.present lent.answer.pool lent.answer.out0 lent.answer.out1 ≡ Ok (record { ledger = new.present; answer = receipt })
        → give_back mid.present pool out0 out1 ≡ Ok (record { ledger = new.present; answer = receipt })
    returns receipt is = subst (λ (t : Terms). give_back mid.present t.pool t.out0 t.out1 ≡ Ok (record { ledger = new.present; answer = receipt })) o.terms is

    -- a loan that was closed, if it was
    pub later_closed : OnOk answer (Later old new.present)
    later_closed = by_answer answer meets
      where
        by_answer : (a : Result SwapReceipt Fault) → Meets mid new a (give_back mid.present lent.answer.pool lent.answer.out0 lent.answer.out1) → OnOk a (Later old new.present)
        by_answer (Ok receipt) m = later_loan old pool out0 out1 to o.lent o.lends mid.present within_lent _ (returns receipt m.gives)
        by_answer (Err fault) m = tt

    -- and it did not lower the product
    pub product_closed : OnOk answer (ProductKept mid.present new.present lent.answer.pool) → OnOk answer (ProductKept old new.present pool)
    product_closed kept = by_answer answer meets kept
      where
        by_answer : (a : Result SwapReceipt Fault) → Meets mid new a (give_back mid.present lent.answer.pool lent.answer.out0 lent.answer.out1)
            → OnOk a (ProductKept mid.present new.present lent.answer.pool) → OnOk a (ProductKept old new.present pool)
        by_answer (Ok receipt) m kept =
            loan_product old pool out0 out1 to o.lent o.lends mid.present within_lent _ (returns receipt m.gives)
            (subst (λ (t : Terms). ProductKept mid.present new.present t.pool) o.terms kept)
        by_answer (Err fault) m kept = tt
