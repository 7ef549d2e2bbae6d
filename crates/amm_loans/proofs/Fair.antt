-- An output that is a pool's for an input passes the tests of a loan and of its return.
use Rattle.std.proofs.Common.{◌≡◌, ◌≤◌, ◌<◌, ◌+◌, ◌-◌, ◌^◌, ◌==◌, ◌&&◌, ℕ, true, false, arith, subst, sym}
use Rattle.std.proofs.lemmas.Bool.Decides.{nat_tests}
use Rattle.amm_model.specs.declared.problem.ProblemPool.{ProblemPool}
use Rattle.amm_model.specs.declared.limits.TheConstants.{RESERVE_LIMIT}
use Rattle.amm_model.specs.Swap.{Admits, admits, amount_out_of}
use Rattle.amm_model.specs.Routing.{fee_of}
use Rattle.amm_model.proofs.Swap.{fee_range, amount_out-lt, admits_turned}
use Rattle.amm_model.proofs.Rule.{rule_kept}
use Rattle.amm_settle.proofs.Trading.{IsSoundPool}

-- The tests pass where b0 and b1 are what the pool has when the loan is returned.
pub record IsFair (pool : ProblemPool) (out0 out1 b0 b1 : ℕ) : Type 0 where
  pub some : (out0 == 0 && out1 == 0) ≡ false
  pub within0 : out0 < pool.r0
  pub within1 : out1 < pool.r1
  pub paid : (b0 - (pool.r0 - out0) == 0 && b1 - (pool.r1 - out1) == 0) ≡ false
  pub rule : admits (fee_of pool) pool.r0 pool.r1 b0 b1 (b0 - (pool.r0 - out0)) (b1 - (pool.r1 - out1)) ≡ true
  pub room0 : b0 ≤ RESERVE_LIMIT
  pub room1 : b1 ≤ RESERVE_LIMIT

module _ (pool : ProblemPool) (x y : ℕ) (sound : IsSoundPool pool) (some : 1 ≤ x) (gives : 1 ≤ y) where
  -- token 0 goes in
  pub zero_fair : y ≡ amount_out_of (fee_of pool) x pool.r0 pool.r1 → pool.b0 + x < 2 ^ 48 → pool.b1 < 2 ^ 48 → IsFair pool 0 y (pool.b0 + x) (pool.b1 - y)
  zero_fair pays room admissible = record {
    some = grind (arith, nat_tests, gives);
    within0 = omega (arith, sound.reserves.0);
    within1 = below;
    paid = (let i : 1 ≤ (pool.b0 + x) - (pool.r0 - 0) = omega (arith, sound.balances.0) in grind (arith, nat_tests));
    rule = rule (pool.b0 - pool.r0) (pool.b1 - pool.r1) (pool.r1 - y) (omega (arith, sound.balances.0)) (omega (arith, sound.balances.2)) (omega (arith, below));
    room0 = omega arith;
    room1 = omega arith;
  } where
    below : y < pool.r1
    below = subst (λ (n : ℕ). n < pool.r1) (sym pays) (amount_out-lt (fee_of pool) x pool.r0 pool.r1 sound.reserves.0 sound.reserves.2)

    rule : (s t k : ℕ) → pool.r0 + s ≡ pool.b0 → pool.r1 + t ≡ pool.b1 → k + y ≡ pool.r1
        → admits (fee_of pool) pool.r0 pool.r1 (pool.b0 + x) (pool.b1 - y) ((pool.b0 + x) - (pool.r0 - 0)) ((pool.b1 - y) - (pool.r1 - y)) ≡ true
    rule s t k e0 e1 ek =
        let m : Admits (fee_of pool) pool.r0 pool.r1 ((pool.r0 + s) + x) (k + t) (s + x) t =
        rule_kept (fee_of pool) pool.r0 pool.r1 x k s t (omega (arith, fee_range (fee_of pool) sound.fee)) sound.reserves.0 sound.reserves.2 (omega (arith, pays, below)) in
        let i : (pool.b0 + x) - (pool.r0 - 0) ≡ s + x = omega arith in
        let j : (pool.b1 - y) - (pool.r1 - y) ≡ t = omega arith in
        let n : pool.b0 + x ≡ (pool.r0 + s) + x = omega arith in
        let o : pool.b1 - y ≡ k + t = omega arith in
        rw (i, j, n, o) m

  -- token 1 goes in
  pub one_fair : y ≡ amount_out_of (fee_of pool) x pool.r1 pool.r0 → pool.b1 + x < 2 ^ 48 → pool.b0 < 2 ^ 48 → IsFair pool y 0 (pool.b0 - y) (pool.b1 + x)
  one_fair pays room admissible = record {
    some = grind (arith, nat_tests, gives);
    within0 = below;
    within1 = omega (arith, sound.reserves.2);
    paid = (let i : 1 ≤ (pool.b1 + x) - (pool.r1 - 0) = omega (arith, sound.balances.2) in grind (arith, nat_tests));
    rule = rule (pool.b1 - pool.r1) (pool.b0 - pool.r0) (pool.r0 - y) (omega (arith, sound.balances.2)) (omega (arith, sound.balances.0)) (omega (arith, below));
    room0 = omega arith;
    room1 = omega arith;
  } where
    below : y < pool.r0
    below = subst (λ (n : ℕ). n < pool.r0) (sym pays) (amount_out-lt (fee_of pool) x pool.r1 pool.r0 sound.reserves.2 sound.reserves.0)

    rule : (s t k : ℕ) → pool.r1 + s ≡ pool.b1 → pool.r0 + t ≡ pool.b0 → k + y ≡ pool.r0
        → admits (fee_of pool) pool.r0 pool.r1 (pool.b0 - y) (pool.b1 + x) ((pool.b0 - y) - (pool.r0 - y)) ((pool.b1 + x) - (pool.r1 - 0)) ≡ true
    rule s t k e0 e1 ek =
        let m : Admits (fee_of pool) pool.r1 pool.r0 ((pool.r1 + s) + x) (k + t) (s + x) t =
        rule_kept (fee_of pool) pool.r1 pool.r0 x k s t (omega (arith, fee_range (fee_of pool) sound.fee)) sound.reserves.2 sound.reserves.0 (omega (arith, pays, below)) in
        let i : (pool.b1 + x) - (pool.r1 - 0) ≡ s + x = omega arith in
        let j : (pool.b0 - y) - (pool.r0 - y) ≡ t = omega arith in
        let n : pool.b1 + x ≡ (pool.r1 + s) + x = omega arith in
        let o : pool.b0 - y ≡ k + t = omega arith in
        rw (i, j, n, o) (admits_turned (fee_of pool) pool.r1 pool.r0 ((pool.r1 + s) + x) (k + t) (s + x) t m)
