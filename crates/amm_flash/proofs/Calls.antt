-- What a borrower's calls promise of the ledger that it leaves.
use Rattle.std.proofs.Common.{◌≡◌, Result, Ok, Err, refl, sym, ◌∙◌}
use Rattle.amm_model.specs.declared.fault.Fault.{Fault}
use Rattle.amm_model.specs.declared.fault.Fault.TheVariants as fault
use Rattle.amm_model.specs.Outcome.{Made, Outcome}
use Rattle.amm_model.specs.Later.{Later}
use Rattle.amm_state.specs.Tx.{TxView, Meets}
use Rattle.amm_state.specs.declared.mark.Mark.{Mark}
use Rattle.amm_state.specs.declared.mark.Mark.TheVariants as mark
use Rattle.amm_flash.specs.End.{end_of}

-- an end that is clean has a clean mark
pub clean_mark : (m : Mark) (answer : Result (Unit {0}) Fault) → end_of m answer ≡ mark.Clean → m ≡ mark.Clean
clean_mark mark.Clean answer is = refl
clean_mark (mark.Refused why) answer is = cc
clean_mark mark.NoMemory answer is = cc

-- a call that left the mark clean was accepted, so what an accepted one promises holds
pub later_when_clean : {A : Type 0} (old new : TxView) (answer : Result A Fault) (outcome : Outcome A) → Meets old new answer outcome
    → ((made : Made A) → outcome ≡ Ok made → Later old.present made.ledger) → new.mark ≡ mark.Clean → Later old.present new.present
later_when_clean old new (Ok a) outcome meets promise clean = promise _ meets.gives
later_when_clean old new (Err (fault.Refused why)) outcome meets promise clean = absurd (let both : mark.Refused why ≡ mark.Clean = sym meets.mark ∙ clean in cc)
later_when_clean old new (Err fault.Memory) outcome meets promise clean = absurd (let both : mark.NoMemory ≡ mark.Clean = sym meets.mark ∙ clean in cc)
