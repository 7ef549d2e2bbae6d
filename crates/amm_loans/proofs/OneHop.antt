-- A hop that gives something is a loan of its output for its input.
use Rattle.std.proofs.Common.{◌≡◌, ℕ, ◌+◌, ◌<◌, ◌≤◌, ◌^◌, Bool, true, false, cond, List, get_or, zero, suc, refl, arith}
use Rattle.std.specs.Prelude.{nat_lt}
use Rattle.std.proofs.lemmas.Bool.{ltb-true}
use Rattle.amm_names.specs.Names.{Name}
use Rattle.amm_model.specs.declared.problem.ProblemPool.{ProblemPool}
use Rattle.amm_model.specs.declared.route.Hop.{Hop}
use Rattle.amm_model.specs.Legs.{IsAdmissible}
use Rattle.amm_model.specs.Paths.{IsHop, hop_pool, hop_from, hop_to, hop_gives, gives}
use Rattle.amm_model.specs.Routing.{fee_of, no_pool}
use Rattle.amm_model.specs.Swap.{amount_out_of}
use Rattle.amm_legs.proofs.Portions.{gives-zero}
use Rattle.amm_settle.proofs.Trading.{IsSoundPool}
use Rattle.amm_loans.proofs.Sides.{IsSide, zero_side, one_side}

-- what gives something had something come in
pub some_in : (pools : List ProblemPool) (hops : List Hop) (x : ℕ) → 1 ≤ gives pools hops x → 1 ≤ x
some_in pools hops zero some = let e = gives-zero pools hops in omega arith
some_in pools hops (suc x) some = omega arith

-- a number that a test lets through
pub let_through : (a b v : ℕ) → 1 ≤ cond (nat_lt a b) v 0 → (a < b) × (cond (nat_lt a b) v 0 ≡ v)
let_through a b v some = pick (nat_lt a b) (ltb-true a b) some
  where
    pick : (t : Bool) → (t ≡ true → a < b) → 1 ≤ cond t v 0 → (a < b) × (cond t v 0 ≡ v)
    pick true says some = (says refl, refl)
    pick false says some = absurd (omega arith)

-- The loan of a hop; b0 and b1 are what its pool has in the end.
pub record HopSide (pools : List ProblemPool) (actor : Name) (hop : Hop) (x : ℕ) : Type 0 where
  pub b0 : ℕ
  pub b1 : ℕ
  pub small : x < 2 ^ 48
  pub side : IsSide (hop_pool pools hop) actor (hop_from pools hop) (hop_to pools hop) x (hop_gives pools hop x)
      (cond hop.zero_in 0 (hop_gives pools hop x)) (cond hop.zero_in (hop_gives pools hop x) 0) b0 b1

pub hop_side : (pools : List ProblemPool) (actor : Name) (hop : Hop) (x : ℕ) → IsHop pools hop → IsSoundPool (hop_pool pools hop) → 1 ≤ x → 1 ≤ hop_gives pools hop x → HopSide pools actor hop x
hop_side pools actor hop x is sound positive some = by_side hop.pool hop.zero_in is.admissible sound some
  where
    by_side : (place : ℕ) (zero_in : Bool) → (let h : Hop = record { pool = place; zero_in = zero_in } in
        IsAdmissible (get_or pools place no_pool) → IsSoundPool (get_or pools place no_pool) → 1 ≤ hop_gives pools h x → HopSide pools actor h x)
    by_side place true admissible sound some =
        let pool = get_or pools place no_pool in
        let passed = let_through (pool.b0 + x) (2 ^ 48) (amount_out_of (fee_of pool) x pool.r0 pool.r1) some in
        record { b0 = _; b1 = _; small = omega (arith, passed.0); side = zero_side pool actor x _ sound positive some passed.1 passed.0 admissible.1 }
    by_side place false admissible sound some =
        let pool = get_or pools place no_pool in
        let passed = let_through (pool.b1 + x) (2 ^ 48) (amount_out_of (fee_of pool) x pool.r1 pool.r0) some in
        record { b0 = _; b1 = _; small = omega (arith, passed.0); side = one_side pool actor x _ sound positive some passed.1 passed.0 admissible.0 }
