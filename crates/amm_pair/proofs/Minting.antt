-- Shares and reserves: what a mint and a burn keep, over plain numbers.
use Rattle.std.proofs.Common.{◌≡◌, ◌≢◌, ◌≤◌, ◌<◌, ◌+◌, ◌-◌, ◌*◌, ℕ, ◌==◌, Bool, true, false, refl, arith}
use Rattle.std.specs.Prelude.{if◌then◌else◌}
use Rattle.std.proofs.lemmas.Bool.Decides.{nat_tests}
use Rattle.std.proofs.lemmas.Bool.{eqb-true}
use Rattle.std.proofs.Math.Nat.{mul-le-mul}
use Rattle.amm_model.specs.Root.{root_of}
use Rattle.amm_model.specs.Formulas.{later_shares_of}
use Rattle.amm_model.specs.declared.limits.TheConstants.{AMOUNT_LIMIT, FIRST_LOCKED, RESERVE_LIMIT}
use Rattle.amm_model.proofs.Root.{square-le, root-square_le}
use Rattle.amm_pool.proofs.Products.{covered_scaled, later_product}

-- a number whose square is below a product of reserves is one that a reserve can be
pub square_small : (s r0 r1 : ℕ) → s * s ≤ r0 * r1 → r0 ≤ RESERVE_LIMIT → r1 ≤ RESERVE_LIMIT → s ≤ RESERVE_LIMIT
square_small s r0 r1 square small0 small1 = square-le s RESERVE_LIMIT (let m : r0 * r1 ≤ RESERVE_LIMIT * RESERVE_LIMIT = mul-le-mul small0 small1 in omega arith)

pub square_within : (s b0 b1 : ℕ) → s * s ≤ b0 * b1 → b0 ≤ AMOUNT_LIMIT → b1 ≤ AMOUNT_LIMIT → s ≤ AMOUNT_LIMIT
square_within s b0 b1 square within0 within1 = square-le s AMOUNT_LIMIT (let m : b0 * b1 ≤ AMOUNT_LIMIT * AMOUNT_LIMIT = mul-le-mul within0 within1 in omega arith)

-- the shares of a mint, of a supply s, with those that are locked
abbrev pub shares_of_mint : (s r0 r1 a0 a1 : ℕ) → ℕ
shares_of_mint s r0 r1 a0 a1 = if s == 0 then root_of (a0 * a1) - FIRST_LOCKED else later_shares_of a0 a1 s r0 r1

abbrev pub locked_first : ℕ → ℕ
locked_first s = if s == 0 then FIRST_LOCKED else 0

-- the squared supply after a mint is within the product of the reserves after it
pub minted_square : (s r0 r1 a0 a1 : ℕ) → s * s ≤ r0 * r1 → shares_of_mint s r0 r1 a0 a1 ≢ 0
    → (s + (shares_of_mint s r0 r1 a0 a1 + locked_first s)) * (s + (shares_of_mint s r0 r1 a0 a1 + locked_first s)) ≤ (r0 + a0) * (r1 + a1)
minted_square s r0 r1 a0 a1 backed = by_test (s == 0) refl
  where
    by_test : (b : Bool) → (s == 0) ≡ b → (if b then root_of (a0 * a1) - FIRST_LOCKED else later_shares_of a0 a1 s r0 r1) ≢ 0
        → (s + ((if b then root_of (a0 * a1) - FIRST_LOCKED else later_shares_of a0 a1 s r0 r1) + (if b then FIRST_LOCKED else 0)))
        * (s + ((if b then root_of (a0 * a1) - FIRST_LOCKED else later_shares_of a0 a1 s r0 r1) + (if b then FIRST_LOCKED else 0))) ≤ (r0 + a0) * (r1 + a1)
    by_test true e some =
        let none : s ≡ 0 = eqb-true s 0 e in
        let whole : s + (root_of (a0 * a1) - FIRST_LOCKED + FIRST_LOCKED) ≡ root_of (a0 * a1) = omega arith in
        let low = root-square_le (a0 * a1) in
        let m : a0 * a1 ≤ (r0 + a0) * (r1 + a1) = mul-le-mul (omega arith) (omega arith) in
        rw whole (omega arith)
    by_test false e some =
        let pos : 0 < s = grind (arith, nat_tests) in
        let whole : s + (later_shares_of a0 a1 s r0 r1 + 0) ≡ s + later_shares_of a0 a1 s r0 r1 = omega arith in
        rw whole (covered_scaled s (s + later_shares_of a0 a1 s r0 r1) (r0 * r1) ((r0 + a0) * (r1 + a1)) pos backed (later_product s r0 r1 a0 a1))
