-- An average price times an amount, by the whole and the broken part of the price; and the growth
-- of an accumulator as a subtraction that wraps.
use Rattle.std.proofs.Common.{◌≡◌, ℕ, zero, ◌+◌, ◌-◌, ◌*◌, ◌/◌, ◌%◌, ◌^◌, ◌<◌, ◌≤◌, ◌↔◌, nat_lt, true, false, Bool, inl, inr, refl, sym, ap, ◌∙◌, arith}
use Rattle.std.proofs.Math.Nat.{add-mul-div_right, div-lt_iff_lt-mul}
use Rattle.std.proofs.lemmas.Nat.{div-add-mod'}
use Rattle.std.proofs.lemmas.Bool.{cases_lt, le-ltb, lt-ltb, ltb-true}
use Rattle.amm_model.specs.Observations.{growth, at_average}
use Rattle.amm_model.specs.declared.limits.TheConstants.{AMOUNT_LIMIT}

-- the growth, as the machine subtracts
pub growth_wraps : (before now : ℕ) → before < 2 ^ 128 → (now + (2 ^ 128 - before)) % 2 ^ 128 ≡ growth before now
growth_wraps before now fits = let same : now + (2 ^ 128 - before) ≡ now + 2 ^ 128 - before = omega arith in ap (λ (n : ℕ). n % 2 ^ 128) same

spread : (h l w n a : ℕ) → h * w + l ≡ a → a * n ≡ l * n + h * n * w
spread h l w n a parts = let product : (h * w + l) * n ≡ l * n + h * n * w = omega arith in sym (ap (λ (k : ℕ). k * n) parts) ∙ product

parts_divided : (a n w : ℕ) → 0 < w → a * n / w ≡ a / w * n + a % w * n / w
parts_divided a n w some =
    let sum : a * n / w ≡ a % w * n / w + a / w * n = ap (λ (k : ℕ). k / w) (spread (a / w) (a % w) w n a (div-add-mod' a w)) ∙ add-mul-div_right (a % w * n) (a / w * n) some in
    omega arith

-- the whole part of the price times the amount, and what its broken part adds
pub worth_parts : (average amount : ℕ) → at_average average amount ≡ average / 2 ^ 48 * amount + average % 2 ^ 48 * amount / 2 ^ 48
worth_parts average amount = parts_divided average amount (2 ^ 48) (omega arith)

same_test : (a b c d : ℕ) → (a < b) ↔ (c < d) → nat_lt a b ≡ nat_lt c d
same_test a b c d both = elim (cases_lt a b) [
  | inl lt ↦ lt-ltb a b lt ∙ sym (lt-ltb c d (both.0 lt))
  | inr ge ↦ elim (cases_lt c d) [
    | inl less ↦ (let lt = both.1 less in absurd (omega arith))
    | inr more ↦ le-ltb a b ge ∙ sym (le-ltb c d more)
  ]
]

-- whether the whole part alone takes the product past the limit, by a division
pub past_limit : (whole amount limit : ℕ) → 0 < amount → nat_lt (limit / amount) whole ≡ nat_lt limit (whole * amount)
past_limit whole amount limit some = same_test (limit / amount) whole limit (whole * amount) (div-lt_iff_lt-mul some)

pub nothing_past : (whole limit : ℕ) → nat_lt limit (whole * 0) ≡ false
nothing_past whole limit = le-ltb limit (whole * 0) (omega arith)

-- then the product is past it
pub worth_past : (average amount limit : ℕ) → nat_lt limit (average / 2 ^ 48 * amount) ≡ true → nat_lt limit (at_average average amount) ≡ true
worth_past average amount limit told =
    let past : limit < average / 2 ^ 48 * amount = ltb-true _ _ told in
    lt-ltb limit (at_average average amount) (omega (arith, worth_parts average amount, past))
