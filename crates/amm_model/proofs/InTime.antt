-- Kept observations stay in the order of their times.
use Rattle.std.proofs.Common.{◌≡◌, ◌≤◌, ℕ, List, sym, subst, arith}
use Rattle.amm_model.specs.declared.observation.Observation.{Observation}
use Rattle.amm_model.specs.Observations.{AreInTime}

-- the same observations at the same time
pub in_time_same : (was now : ℕ) (old new : List Observation) → now ≡ was → new ≡ old → AreInTime was old → AreInTime now new
in_time_same was now old new time same kept = subst (λ (t : ℕ). AreInTime t new) (sym time) (subst (λ (os : List Observation). AreInTime was os) (sym same) kept)

-- the same observations later
pub in_time_later : (was now : ℕ) (kept : List Observation) → was ≤ now → AreInTime was kept → AreInTime now kept
in_time_later was now kept later in_time = record {
  few = in_time.few;
  in_order = in_time.in_order;
  past = λ k d lt. omega (arith, in_time.past k d lt);
}
