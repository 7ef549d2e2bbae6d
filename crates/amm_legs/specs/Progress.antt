-- What the evaluator of legs keeps from leg to leg.
use Rattle.std.specs.Prelude.{ℕ, ◌≡◌, ◌≢◌, ◌↔◌, ◌+◌, ◌*◌, ◌^◌, ◌<◌, ◌≤◌, Bool, false, List, [], length, take, slice_index, slice_index_or, All, if◌then◌else◌}
use Rattle.amm_model.specs.declared.problem.ProblemPool.{ProblemPool}
use Rattle.amm_model.specs.declared.route.Leg.{Leg}
use Rattle.amm_model.specs.Swap.{amount_out_of}
use Rattle.amm_model.specs.Routing.{OpenView, fee_of, amount_given}
use Rattle.amm_model.specs.Legs.{AreLegs, IsAdmissible, IsLeg, after_legs, no_leg, used_after}

-- What is held after legs that may be taken, at each token's place, and a mark at the place of each
-- pool used.
pub record Follows (problem : OpenView) (legs : List Leg) (held : List ℕ) (used : List Bool) : Type 0 where
  pub long : length held ≡ 521
  pub wide : length used ≡ 256
  pub legal : AreLegs problem.pools [] (amount_given problem) legs
  pub amounts : (j : ℕ) → j < length problem.tokens → slice_index held j ≡ after_legs problem.pools (amount_given problem) legs (slice_index_or problem.tokens j [])
  pub below : (j : ℕ) → slice_index held j ≤ 2 ^ 52 + length legs * 2 ^ 48
  pub marks : (place : ℕ) → place < 256 → (slice_index_or used place false ≡ false) ↔ All (λ (q : ℕ). q ≢ place) (used_after [] legs)

-- The leg at a place may be taken after those before it.
abbrev pub IsNext : OpenView → List Leg → ℕ → Type 0
IsNext problem legs i = IsLeg problem.pools (used_after [] (take i legs)) (after_legs problem.pools (amount_given problem) (take i legs)) (slice_index_or legs i no_leg)

-- The pool takes the leg's input and pays its output for it.
abbrev pub IsPaid : ProblemPool → Leg → Type 0
IsPaid pool leg = IsAdmissible pool × (1 ≤ leg.input) × ((if leg.zero_in then pool.b0 else pool.b1) + leg.input < 2 ^ 48) × (1 ≤ leg.output)
    × (leg.output ≡ amount_out_of (fee_of pool) leg.input (if leg.zero_in then pool.r0 else pool.r1) (if leg.zero_in then pool.r1 else pool.r0))
