-- What a call that ran the loans of a cycle met.
use Rattle.std.proofs.Common.{◌≡◌, List, [], ◌∷◌, Result, Ok, Err, refl, sym, ◌∙◌, subst}
use Rattle.amm_names.specs.Names.{Name}
use Rattle.amm_model.specs.declared.problem.ProblemPool.{ProblemPool}
use Rattle.amm_model.specs.declared.route.Leg.{Leg}
use Rattle.amm_model.specs.declared.pair.SwapReceipt.{SwapReceipt}
use Rattle.amm_model.specs.declared.reply.Answer.{Answer}
use Rattle.amm_model.specs.declared.fault.Fault.{Fault}
use Rattle.amm_model.specs.declared.fault.Fault.TheVariants as faults
use Rattle.amm_model.specs.declared.fault.Refusal.{Refusal}
use Rattle.amm_model.specs.Outcome.{Made, Outcome}
use Rattle.amm_model.specs.Ledger.{Ledger}
use Rattle.amm_model.specs.CommandView.{Move}
use Rattle.amm_model.specs.CycleRuns.{RunsNested}
use Rattle.amm_model.specs.Cycles.{nested_loans}
use Rattle.amm_model.specs.Meaning.{meaning}
use Rattle.amm_state.specs.Tx.{TxView, Accepts, Meets}
use Rattle.amm_settle.proofs.LegsPay.{not_both}
use Rattle.amm_loans.specs.Loans.{AreLoansOf, run_loans}
use Rattle.amm_loans.proofs.OneLoan.{flash_made}

-- a step that is the loans of legs was accepted, so they were
pub accepted : (old new : TxView) (actor : Name) (pools : List ProblemPool) (legs : List Leg) (step : Move) (answer : Answer) → AreLoansOf pools legs step
    → Accepts old new answer (meaning old.present actor step) → Accepts old new tt (run_loans old.present actor pools legs)
unfolding run_loans
accepted old new actor pools [] step answer is meets = absurd is
accepted old new actor pools (first ∷ later) step answer is meets =
    let gives = subst (λ (m : Move). meaning old.present actor m ≡ Ok (record { ledger = new.present; answer = answer })) is meets.gives in
    record { gives = rw (gives) refl; opening = meets.opening; mark = meets.mark }

-- what is accepted fails for want of memory alone
pub failed : {A B : Type 0} (old new : TxView) (fault : Fault) (outcome : Outcome A) (other : Outcome B) (made : Made A) → outcome ≡ Ok made → Meets old new (Err fault) outcome → Meets {A = B} old new (Err fault) other
failed old new (faults.Refused why) outcome other made is meets = absurd (not_both made why (sym is ∙ meets.gives))
failed old new faults.Memory outcome other made is meets = record { opening = meets.opening; mark = meets.mark }

pub no_code : {A B : Type 0} (old new : TxView) (fault : Fault) (outcome : Outcome A) (made : Made A) → outcome ≡ Ok made → Meets old new (Err fault) outcome → (why : Refusal)
    → (◌≡◌ {A = Result B Fault} (Err fault) (Err (faults.Refused why))) → ⊥
no_code old new (faults.Refused code) outcome made is meets why same = not_both made code (sym is ∙ meets.gives)
no_code old new faults.Memory outcome made is meets why same = cc

-- what holds of the ledger of the accepted outcome holds of the ledger after the call
pub ledger_of : {A : Type 0} (P : Ledger → Type 0) (old new : TxView) (answer : A) (outcome : Outcome A) (made : Made A) → outcome ≡ Ok made → P made.ledger → Accepts old new answer outcome → P new.present
ledger_of {A} P old new answer outcome made is holds meets =
    let same : made ≡ record { ledger = new.present; answer = answer } = (let both : ◌≡◌ {A = Outcome A} (Ok made) (Ok (record { ledger = new.present; answer = answer })) = sym is ∙ meets.gives in cc) in
    subst (λ (m : Made A). P m.ledger) same holds

-- the loans of legs ran inside one another, and left the ledger after the call
pub runs : (old new : TxView) (actor : Name) (pools : List ProblemPool) (legs : List Leg) (step : Move) (answer : Answer) (made : Made SwapReceipt) → AreLoansOf pools legs step
    → meaning old.present actor step ≡ Ok (flash_made made.ledger made.answer) → Accepts old new answer (meaning old.present actor step) → RunsNested meaning old.present actor pools legs new.present
runs old new actor pools [] step answer made is done meets = absurd is
runs old new actor pools (first ∷ later) step answer made is done meets = record {
  first = first;
  later = later;
  are = refl;
  receipt = made.answer;
  ran = ledger_of (λ (l : Ledger). meaning old.present actor (nested_loans pools first later) ≡ Ok (flash_made l made.answer)) old new answer (meaning old.present actor step)
      (flash_made made.ledger made.answer) done (subst (λ (m : Move). meaning old.present actor m ≡ Ok (flash_made made.ledger made.answer)) is done) meets;
}
