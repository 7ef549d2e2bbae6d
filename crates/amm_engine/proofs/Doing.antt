-- What a call did, as what a command may come to.
use Rattle.std.proofs.Common.{◌≡◌, Result, Ok, Err, refl, sym, subst}
use Rattle.amm_model.specs.declared.fault.Fault.{Fault}
use Rattle.amm_model.specs.declared.fault.Fault.TheVariants as faults
use Rattle.amm_model.specs.declared.fault.Refusal.{Refusal}
use Rattle.amm_model.specs.declared.reply.Answer.{Answer}
use Rattle.amm_model.specs.CommandView.{CommandView}
use Rattle.amm_model.specs.Outcome.{Outcome}
use Rattle.amm_model.specs.Meaning.{MayComeTo}
use Rattle.amm_state.specs.Tx.{TxView, Meets, mark_of}
use Rattle.amm_state.specs.declared.mark.Mark.TheVariants as marks
use Rattle.amm_engine.specs.Commands.{DoesOne, DoesCommand}

module _ (old new : TxView) (asked : CommandView) where
  pub does : (result : Result Answer Fault) (outcome : Outcome Answer) → MayComeTo old.present asked outcome → Meets old new result outcome → DoesCommand old new asked result
  does (Ok answer) outcome comes meets = record { outcome = outcome; comes = comes; meets = meets }
  does (Err (faults.Refused why)) outcome comes meets = record { outcome = outcome; comes = comes; meets = meets }
  does (Err faults.Memory) outcome comes meets = meets

  -- an accepted call
  pub does_accepted : (answer : Answer) → DoesOne old new asked (Ok answer) → MayComeTo old.present asked (Ok (record { ledger = new.present; answer = answer }))
  does_accepted answer one = subst (MayComeTo old.present asked) one.meets.gives one.comes

  -- a refused one
  pub does_refused : (why : Refusal) → DoesOne old new asked (Err (faults.Refused why)) → MayComeTo old.present asked (Err why)
  does_refused why one = subst (MayComeTo old.present asked) one.meets.gives one.comes

  -- a call that left the ledger alone, and refused
  pub does_not : (why : Refusal) (fault : Fault) → MayComeTo old.present asked (Err why) → fault ≡ faults.Refused why → new ≡ record old { mark = marks.Refused why } → DoesCommand old new asked (Err fault)
  does_not why fault comes is after =
      subst (λ (f : Fault). DoesCommand old new asked (Err f)) (sym is)
      (subst (λ (n : TxView). DoesCommand old n asked (Err (faults.Refused why))) (sym after)
      (record { outcome = Err why; comes = comes; meets = record { gives = refl; opening = refl; mark = refl } }))

  -- one that left it alone, and failed as another call did
  pub does_fail : (fault given : Fault) → ((why : Refusal) → fault ≡ faults.Refused why → MayComeTo old.present asked (Err why)) → given ≡ fault → new ≡ record old { mark = mark_of fault }
      → DoesCommand old new asked (Err given)
  does_fail fault given comes is after =
      subst (λ (f : Fault). DoesCommand old new asked (Err f)) (sym is)
      (subst (λ (n : TxView). DoesCommand old n asked (Err fault)) (sym after) (by fault comes))
    where
      by : (f : Fault) → ((why : Refusal) → f ≡ faults.Refused why → MayComeTo old.present asked (Err why)) → DoesCommand old (record old { mark = mark_of f }) asked (Err f)
      by (faults.Refused why) comes = record { outcome = Err why; comes = comes why refl; meets = record { gives = refl; opening = refl; mark = refl } }
      by faults.Memory comes = record { opening = refl; mark = refl }
