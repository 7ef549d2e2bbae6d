-- The last observation that passes a test: its number is its place, and a wait of some seconds only
-- moves the time.
use Rattle.std.proofs.Common.{◌≡◌, ℕ, suc, ◌+◌, ◌-◌, ◌<◌, ◌≤◌, nat_le, Bool, true, false, ◌&&◌, List, [], ◌∷◌, Option, None, Some, Result, Ok, Err, refl, sym, ap, subst, ◌∙◌, inl, inr, arith, add-zero}
use Rattle.std.specs.Prelude.{slice_get, ok_or, if◌then◌else◌}
use Rattle.std.specs.Option.{option_or, option_map}
use Rattle.std.proofs.lemmas.Bool.{cases_lt, le-leb, lt-leb}
use Rattle.std.proofs.lemmas.Option.{cond_some}
use Rattle.amm_names.specs.Names.{Name}
use Rattle.amm_model.specs.declared.observation.Observation.{Observation}
use Rattle.amm_model.specs.declared.fault.Refusal.TheVariants.{NoObservation}
use Rattle.amm_model.specs.declared.fault.Refusal.{Refusal}
use Rattle.amm_model.specs.Ledger.{observation_at}
use Rattle.amm_model.specs.Observations.{is_before}
use Rattle.amm_model.specs.Oracle.{last_from}
use Rattle.amm_model.specs.Pools.{same_name}

-- a place in a list of observations, of which the first has this number
record At (n : ℕ) (os : List Observation) (found : ℕ × Observation) : Type 0 where
  place : ℕ
  number : found.0 ≡ n + place
  there : slice_get os place ≡ Some found.1

last_from-at : (n : ℕ) (passes : Observation → Bool) (os : List Observation) (found : ℕ × Observation) → last_from n passes os ≡ Some found → At n os found
unfolding last_from
last_from-at n passes [] found is = cc
last_from-at n passes (o ∷ os) found is =
    elim (last_from (suc n) passes os) as (λ later. last_from (suc n) passes os ≡ later → option_or later (if passes o then Some (n, o) else None) ≡ Some found → At n (o ∷ os) found) [
      | Some g ↦ λ was gives. (let at = last_from-at (suc n) passes os found (was ∙ gives) in
          record { place = suc at.place; number = omega (arith, at.number); there = at.there })
      | None ↦ λ was gives. (let here = cond_some (passes o) (n, o) found gives in
          let number : found.0 ≡ n = sym (ap (λ (f : ℕ × Observation). f.0) here.1) in
          record { place = 0; number = omega (arith, number); there = ap (λ (f : ℕ × Observation). Some f.1) here.1 })
    ] refl is

-- the last is kept under its number
pub last_kept : (passes : Observation → Bool) (os : List Observation) (found : ℕ × Observation) → last_from 1 passes os ≡ Some found → observation_at os found.0 ≡ Some found.1
last_kept passes os found is =
    let at = last_from-at 1 passes os found is in
    let number : found.0 ≡ suc at.place = omega (arith, at.number) in
    subst (λ (m : ℕ). observation_at os m ≡ Some found.1) (sym number) at.there

last_from-same : (n : ℕ) (p q : Observation → Bool) (os : List Observation) → ((o : Observation) → p o ≡ q o) → last_from n p os ≡ last_from n q os
unfolding last_from
last_from-same n p q [] same = refl
last_from-same n p q (o ∷ os) same = rw (last_from-same (suc n) p q os same, same o) refl

last_from-none : (n : ℕ) (p : Observation → Bool) (os : List Observation) → ((o : Observation) → p o ≡ false) → last_from n p os ≡ None
unfolding last_from
last_from-none n p [] fails = refl
last_from-none n p (o ∷ os) fails = rw (last_from-none (suc n) p os fails, fails o) refl

and_false : (b : Bool) → (b && false) ≡ false
and_false true = refl
and_false false = refl

waited : (t seconds time : ℕ) → seconds ≤ time → nat_le (t + seconds) time ≡ nat_le (t + 0) (time - seconds)
waited t seconds time fits = elim (cases_lt time (t + seconds)) [
  | inl late ↦ lt-leb (t + seconds) time late ∙ sym (lt-leb (t + 0) (time - seconds) (omega arith))
  | inr early ↦ le-leb (t + seconds) time early ∙ sym (le-leb (t + 0) (time - seconds) (omega arith))
]

-- so many seconds before a time is by an earlier time
pub last_from-waited : (n : ℕ) (pool : Name) (seconds time : ℕ) (os : List Observation) → seconds ≤ time → last_from n (is_before pool seconds time) os ≡ last_from n (is_before pool 0 (time - seconds)) os
last_from-waited n pool seconds time os fits = last_from-same n _ _ os (λ o. ap (λ b. same_name pool o.pool && b) (waited o.time seconds time fits))

-- and no time is so early
pub last_from-never : (n : ℕ) (pool : Name) (seconds time : ℕ) (os : List Observation) → time < seconds → last_from n (is_before pool seconds time) os ≡ None
last_from-never n pool seconds time os never = last_from-none n _ os (λ o. ap (λ b. same_name pool o.pool && b) (lt-leb (o.time + seconds) time (omega arith)) ∙ and_false (same_name pool o.pool))

-- the same, for the time that is so many seconds earlier
pub found_waited : (pool : Name) (seconds time latest : ℕ) (os : List Observation) → seconds ≤ time → time - seconds ≡ latest → last_from 1 (is_before pool seconds time) os ≡ last_from 1 (is_before pool 0 latest) os
found_waited pool seconds time latest os fits is = last_from-waited 1 pool seconds time os fits ∙ ap (λ (t : ℕ). last_from 1 (is_before pool 0 t) os) is

-- ---- what was found by its number

-- one, which is then read
pub found_some : (os : List Observation) (passes : Observation → Bool) (number : ℕ) (kept : Observation) (found : Option (ℕ × Observation)) → last_from 1 passes os ≡ found
    → Some number ≡ option_map (λ f. f.0) found → Ok kept ≡ ok_or (observation_at os number) NoObservation → ◌≡◌ {A = Result (ℕ × Observation) Refusal} (Ok (number, kept)) (ok_or found NoObservation)
found_some os passes number kept None was is read = cc
found_some os passes number kept (Some f) was is read =
    let same : number ≡ f.0 = cc in
    let there : observation_at os number ≡ Some f.1 = ap (observation_at os) same ∙ last_kept passes os f was in
    let read_is : ◌≡◌ {A = Result Observation Refusal} (Ok kept) (Ok f.1) = read ∙ ap (λ (o : Option Observation). ok_or o NoObservation) there in
    let kept_is : kept ≡ f.1 = cc in
    λ i. Ok (same i, kept_is i)

-- where the read fails, there was none
pub found_lost : (os : List Observation) (passes : Observation → Bool) (number : ℕ) (why : Refusal) (found : Option (ℕ × Observation)) → last_from 1 passes os ≡ found
    → Some number ≡ option_map (λ f. f.0) found → Err why ≡ ok_or (observation_at os number) NoObservation → ◌≡◌ {A = Result (ℕ × Observation) Refusal} (Err why) (ok_or found NoObservation)
found_lost os passes number why None was is read = cc
found_lost os passes number why (Some f) was is read =
    let same : number ≡ f.0 = cc in
    let there : observation_at os number ≡ Some f.1 = ap (observation_at os) same ∙ last_kept passes os f was in
    let read_is : ◌≡◌ {A = Result Observation Refusal} (Err why) (Ok f.1) = read ∙ ap (λ (o : Option Observation). ok_or o NoObservation) there in
    cc
