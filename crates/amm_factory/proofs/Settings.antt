-- What an accepted change of the settings leaves.
use Rattle.std.proofs.Common.{◌≡◌, ℕ, not, List, Ok, refl, sym, ap, subst, arith}
use Rattle.amm_names.specs.declared.holder.Holder.{Holder}
use Rattle.amm_model.specs.declared.fault.Refusal.TheVariants as code
use Rattle.amm_model.specs.Ledger.{Ledger, with_fee_to, with_setter}
use Rattle.amm_model.specs.Outcome.{Made}
use Rattle.amm_model.specs.Pools.{same_name}
use Rattle.amm_model.specs.Factory.{set_fee_to, set_setter}
use Rattle.amm_model.specs.Sound.{IsSound}
use Rattle.amm_model.proofs.Guards.{not_refused, same_answer}
use Rattle.amm_model.proofs.PlainSound.{set_plain, set_sound}
use Rattle.amm_model.proofs.Keeping.{Keeps, plain_keeps}

-- other settings keep so much
set_keeps : (ledger : Ledger) (fee_to : Holder) (setter : List ℕ) → Keeps ledger (record ledger { fee_to = fee_to; setter = setter })
set_keeps ledger fee_to setter = plain_keeps ledger (record ledger { fee_to = fee_to; setter = setter }) (set_plain ledger fee_to setter ledger.time) (λ token. refl)

module _ (ledger : Ledger) (actor : List ℕ) (to : Holder) (made : Made (Unit {0})) (is : set_fee_to ledger actor to ≡ Ok made) where
  pub set_fee_to_made : made.ledger ≡ with_fee_to ledger to
  unfolding set_fee_to
  set_fee_to_made =
      let past = not_refused (not (same_name actor ledger.setter)) code.Forbidden _ made is in
      ap (λ (m : Made (Unit {0})). m.ledger) (sym (same_answer (record { ledger = with_fee_to ledger to; answer = tt }) made past.1))

  pub set_fee_to_keeps : Keeps ledger made.ledger
  set_fee_to_keeps = subst (Keeps ledger) (sym set_fee_to_made) (set_keeps ledger to ledger.setter)

  pub set_fee_to_sound : IsSound ledger → IsSound made.ledger
  set_fee_to_sound sound = subst IsSound (sym set_fee_to_made) (set_sound ledger to ledger.setter ledger.time (omega arith) sound.time sound)

module _ (ledger : Ledger) (actor to : List ℕ) (made : Made (Unit {0})) (is : set_setter ledger actor to ≡ Ok made) where
  pub set_setter_made : made.ledger ≡ with_setter ledger to
  unfolding set_setter
  set_setter_made =
      let past = not_refused (not (same_name actor ledger.setter)) code.Forbidden _ made is in
      ap (λ (m : Made (Unit {0})). m.ledger) (sym (same_answer (record { ledger = with_setter ledger to; answer = tt }) made past.1))

  pub set_setter_keeps : Keeps ledger made.ledger
  set_setter_keeps = subst (Keeps ledger) (sym set_setter_made) (set_keeps ledger ledger.fee_to to)

  pub set_setter_sound : IsSound ledger → IsSound made.ledger
  set_setter_sound sound = subst IsSound (sym set_setter_made) (set_sound ledger ledger.fee_to to ledger.time (omega arith) sound.time sound)
