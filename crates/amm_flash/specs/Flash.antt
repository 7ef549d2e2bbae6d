-- What a flash swap with a borrower answers.
use Rattle.std.specs.Prelude.{◌≡◌, ◌⊎◌, Result, Ok, Err}
use Rattle.amm_model.specs.declared.pair.SwapReceipt.{SwapReceipt}
use Rattle.amm_model.specs.declared.fault.Refusal.{Refusal}
use Rattle.amm_model.specs.declared.fault.Fault.{Fault}
use Rattle.amm_model.specs.declared.fault.Fault.TheVariants as fault
use Rattle.amm_model.specs.Ledger.{Ledger, with_pair}
use Rattle.amm_model.specs.Outcome.{Made, Outcome}
use Rattle.amm_model.specs.Pools.{Terms}
use Rattle.amm_model.specs.Operations.{give_back}
use Rattle.amm_model.specs.Later.{Later}
use Rattle.amm_state.specs.declared.mark.Mark.{Mark}
use Rattle.amm_state.specs.declared.mark.Mark.TheVariants as mark

-- the ledger with the lending pair's record set back to that of the loan
abbrev pub before_return : Ledger → Terms → Ledger
before_return ledger loan = with_pair ledger loan.pool loan.pair

-- What the borrower left is later than the loan and is its deed, and the return of the loan leaves
-- this ledger and gives the receipt.
pub record IsRepaid (did : Ledger → Ledger → Mark → Type 0) (lent : Made Terms) (left : Ledger) (receipt : SwapReceipt) : Type 0 where
  pub promise : Later lent.ledger (before_return left lent.answer)
  pub deed : did lent.ledger (before_return left lent.answer) mark.Clean
  pub gives : give_back (before_return left lent.answer) lent.answer.pool lent.answer.out0 lent.answer.out1 ≡ Ok (record { ledger = left; answer = receipt })

-- The borrower ended with this code; or it ended clean, and the return refused by it.
abbrev pub IsRefusedBy : (Ledger → Ledger → Mark → Type 0) → Made Terms → Ledger → Refusal → Type 0
IsRefusedBy did lent left why =
    did lent.ledger left (mark.Refused why)
    ⊎ (did lent.ledger left mark.Clean × (give_back left lent.answer.pool lent.answer.out0 lent.answer.out1 ≡ Err why))

-- what a flash swap answers and leaves, by what the loan gives
abbrev pub FlashAnswers : (Ledger → Ledger → Mark → Type 0) → Outcome Terms → Ledger → Result SwapReceipt Fault → Type 0
FlashAnswers did (Ok lent) left (Ok receipt) = IsRepaid did lent left receipt
FlashAnswers did (Ok lent) left (Err (fault.Refused why)) = IsRefusedBy did lent left why
FlashAnswers did (Err code) left (Ok receipt) = ⊥
FlashAnswers did (Err code) left (Err (fault.Refused why)) = why ≡ code
FlashAnswers did outcome left (Err fault.Memory) = Unit {0}
