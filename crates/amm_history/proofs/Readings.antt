-- What an accumulator would read if its pair were updated at a time: no update at that time changes
-- it.
use Rattle.std.proofs.Common.{◌≡◌, ◌+◌, ◌*◌, ◌/◌, ◌%◌, ◌^◌, ℕ, nat_eq, Bool, true, false, ◌⊎◌, inl, inr, refl, ap, ◌∙◌, arith}
use Rattle.std.specs.Prelude.{if◌then◌else◌}
use Rattle.amm_model.specs.declared.pair.PairRecord.{PairRecord}
use Rattle.amm_model.specs.Formulas.{elapsed_seconds, accumulator_after}
use Rattle.amm_model.specs.Operations.{renewed_record, locked_pair, unlocked_pair, with_product}
use Rattle.amm_model.specs.WeightedPrices.{spot_price}

-- an accumulator after e seconds at the price of reserves
abbrev pub reading : (acc units per e : ℕ) → ℕ
reading acc units per e = (acc + spot_price units per * e) % 2 ^ 128

-- both accumulators of a pair, brought up to a time
abbrev pub reading0 : ℕ → PairRecord → ℕ
reading0 time pair = reading pair.acc0 pair.r1 pair.r0 (elapsed_seconds time pair.last)

abbrev pub reading1 : ℕ → PairRecord → ℕ
reading1 time pair = reading pair.acc1 pair.r0 pair.r1 (elapsed_seconds time pair.last)

-- an update makes of an accumulator what it reads
accumulated : (acc units per e : ℕ) → accumulator_after acc units per e % 2 ^ 128 ≡ reading acc units per e
accumulated acc units per e = by (nat_eq units 0) (nat_eq per 0) (units * 2 ^ 48 / per)
  where
    by : (b c : Bool) (p : ℕ) → (if b then acc else (if c then acc else (acc + p * e) % 2 ^ 128)) % 2 ^ 128 ≡ (acc + (if b then 0 else (if c then 0 else p)) * e) % 2 ^ 128
    by true c p = omega arith
    by false true p = omega arith
    by false false p = omega arith

no_seconds : (time : ℕ) → elapsed_seconds time (time % 2 ^ 32) ≡ 0
no_seconds time = omega arith

-- at the time of the last update it reads what it is
pub reads_itself : (acc units per time last : ℕ) → last ≡ time % 2 ^ 32 → reading acc units per (elapsed_seconds time last) ≡ acc % 2 ^ 128
reads_itself acc units per time last at =
    let none : elapsed_seconds time last ≡ 0 = ap (elapsed_seconds time) at ∙ no_seconds time in
    ap (reading acc units per) none ∙ nothing (spot_price units per)
  where
    nothing : (p : ℕ) → (acc + p * 0) % 2 ^ 128 ≡ acc % 2 ^ 128
    nothing p = omega arith

-- The same pair, at one time: it reads the same, and was last updated when it was, or now.
pub record Drift (time : ℕ) (was now : PairRecord) : Type 0 where
  pub first : reading0 time now ≡ reading0 time was
  pub second : reading1 time now ≡ reading1 time was
  pub last : (now.last ≡ was.last) ⊎ (now.last ≡ time % 2 ^ 32)

pub drift_same : (time : ℕ) (pair : PairRecord) → Drift time pair pair
drift_same time pair = record { first = refl; second = refl; last = inl refl }

pub drift_then : (time : ℕ) (a b c : PairRecord) → Drift time a b → Drift time b c → Drift time a c
drift_then time a b c one two = record {
  first = two.first ∙ one.first;
  second = two.second ∙ one.second;
  last = elim two.last [
    | inl same ↦ elim one.last [ inl before ↦ inl (same ∙ before) | inr now ↦ inr (same ∙ now) ]
    | inr now ↦ inr now
  ];
}

-- an update at the time
pub drift_renewed : (time : ℕ) (pair : PairRecord) (b0 b1 : ℕ) → Drift time pair (renewed_record pair time b0 b1)
drift_renewed time pair b0 b1 = record {
  first = reads_itself (accumulator_after pair.acc0 pair.r1 pair.r0 e) b1 b0 time (time % 2 ^ 32) refl ∙ accumulated pair.acc0 pair.r1 pair.r0 e;
  second = reads_itself (accumulator_after pair.acc1 pair.r0 pair.r1 e) b0 b1 time (time % 2 ^ 32) refl ∙ accumulated pair.acc1 pair.r0 pair.r1 e;
  last = inr refl;
} where
  e : ℕ
  e = elapsed_seconds time pair.last

-- locks and the kept product are not read
module _ (time : ℕ) (was now : PairRecord) (drift : Drift time was now) where
  pub drift_locked : Drift time was (locked_pair now)
  drift_locked = record { first = drift.first; second = drift.second; last = drift.last }

  pub drift_unlocked : Drift time was (unlocked_pair now)
  drift_unlocked = record { first = drift.first; second = drift.second; last = drift.last }

  pub drift_product : (nobody : Bool) → Drift time was (with_product nobody now)
  drift_product nobody = record { first = drift.first; second = drift.second; last = drift.last }
