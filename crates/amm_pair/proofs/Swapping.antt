-- A swap whose tests pass is made, and what it leaves.
use Rattle.std.proofs.Common.{◌≡◌, ◌≢◌, ◌≤◌, ◌<◌, ◌+◌, ◌-◌, ℕ, nat_lt, nat_le, ◌==◌, ◌&&◌, ◌||◌, true, false, List, Some, Ok, inl, refl, sym, ◌∙◌, arith, subst}
use Rattle.std.proofs.lemmas.Bool.{le-ltb}
use Rattle.std.proofs.lemmas.Bool.Decides.{nat_tests}
use Rattle.amm_names.specs.declared.holder.Holder.{Holder}
use Rattle.amm_names.specs.declared.holder.Holder.TheVariants as holders
use Rattle.amm_names.specs.Pools.{pool_token0, pool_token1, pool_fee}
use Rattle.amm_model.specs.declared.pair.PairRecord.{PairRecord}
use Rattle.amm_model.specs.declared.pair.SwapReceipt.{SwapReceipt}
use Rattle.amm_model.specs.declared.limits.TheConstants.{RESERVE_LIMIT}
use Rattle.amm_model.specs.Outcome.{Made, ledger_only}
use Rattle.amm_model.specs.Ledger.{Ledger, balance, with_transfer, pair_of, with_pair}
use Rattle.amm_model.specs.Pools.{asset0, asset1, held0, held1}
use Rattle.amm_model.specs.Swap.{admits}
use Rattle.amm_model.specs.Operations.{renewed_record, updated_record_to, unlocked_pair, send_both, lending_pair, came_to, settle_swap, swap}
use Rattle.amm_model.proofs.Soundness.{tokens_apart}
use Rattle.amm_pair.specs.Straight.{swap_straight}
use Rattle.amm_pair.proofs.Straight.{swap_is_straight}
use Rattle.amm_model.proofs.Moved.{Moved, moved_moved, transfer_made}

-- A swap to a user passes its tests: b0 and b1 are what the pool has after its outputs.
pub record CanSwap (ledger : Ledger) (pool : List ℕ) (pair : PairRecord) (out0 out1 b0 b1 : ℕ) : Type 0 where
  pub apart : pool_token0 pool ≢ pool_token1 pool
  pub there : pair_of ledger.pairs pool ≡ Some pair
  pub free : pair.locked ≡ false
  pub some : (out0 == 0 && out1 == 0) ≡ false
  pub within0 : out0 < pair.r0
  pub within1 : out1 < pair.r1
  pub left0 : b0 + out0 ≡ held0 ledger pool
  pub left1 : b1 + out1 ≡ held1 ledger pool
  pub paid : (b0 - (pair.r0 - out0) == 0 && b1 - (pair.r1 - out1) == 0) ≡ false
  pub rule : admits (pool_fee pool) pair.r0 pair.r1 b0 b1 (b0 - (pair.r0 - out0)) (b1 - (pair.r1 - out1)) ≡ true
  pub room0 : b0 ≤ RESERVE_LIMIT
  pub room1 : b1 ≤ RESERVE_LIMIT

-- What a swap to a user leaves: both outputs went to him, and the pool's record is new.
pub record IsSwapped (pool : List ℕ) (out0 out1 : ℕ) (to : Holder) (old new : Ledger) : Type 0 where
  pub half : Ledger
  pub sent : Ledger
  pub first : Moved (asset0 pool) (holders.Pool pool) to out0 old half
  pub second : Moved (asset1 pool) (holders.Pool pool) to out1 half sent
  pub pair : PairRecord
  pub after : new ≡ with_pair sent pool pair

pub record SwapDone (old : Ledger) (pool : List ℕ) (out0 out1 : ℕ) (actor : List ℕ) : Type 0 where
  pub value : Made SwapReceipt
  pub is : swap old pool out0 out1 (holders.User actor) ≡ Ok value
  pub leaves : IsSwapped pool out0 out1 (holders.User actor) old value.ledger

module _ (ledger : Ledger) (pool : List ℕ) (pair : PairRecord) (out0 out1 b0 b1 : ℕ) (actor : List ℕ) (can : CanSwap ledger pool pair out0 out1 b0 b1) where
  lends : lending_pair ledger pool out0 out1 (holders.User actor) ≡ Ok pair
  unfolding lending_pair
  lends =
      let less : (nat_le pair.r0 out0 || nat_le pair.r1 out1) ≡ false = grind (arith, nat_tests, can.within0, can.within1) in
      rw (can.there, can.free, can.some, less) refl

  not_itself : (◌≢◌ {A = Holder} (holders.Pool pool) (holders.User actor))
  not_itself e = cc

  abbrev half : Ledger
  half = with_transfer ledger (asset0 pool) (holders.Pool pool) (holders.User actor) out0

  abbrev sent : Ledger
  sent = with_transfer half (asset1 pool) (holders.Pool pool) (holders.User actor) out1

  first : Moved (asset0 pool) (holders.Pool pool) (holders.User actor) out0 ledger half
  first = moved_moved ledger (asset0 pool) (holders.Pool pool) (holders.User actor) out0 (omega (arith, can.left0)) not_itself

  -- the first output leaves what the pool has of the other token
  still1 : balance half (asset1 pool) (holders.Pool pool) ≡ held1 ledger pool
  still1 = first.others (asset1 pool) (holders.Pool pool) (inl (tokens_apart (pool_token1 pool) (pool_token0 pool) (λ e. can.apart (sym e))))

  funds1 : out1 ≤ balance half (asset1 pool) (holders.Pool pool)
  funds1 = omega (arith, still1, can.left1)

  second : Moved (asset1 pool) (holders.Pool pool) (holders.User actor) out1 half sent
  second = moved_moved half (asset1 pool) (holders.Pool pool) (holders.User actor) out1 funds1 not_itself

  still0 : held0 sent pool ≡ balance half (asset0 pool) (holders.Pool pool)
  still0 = second.others (asset0 pool) (holders.Pool pool) (inl (tokens_apart (pool_token0 pool) (pool_token1 pool) can.apart))

  now0 : held0 sent pool ≡ b0
  now0 = omega (arith, still0, first.less, can.left0)

  now1 : held1 sent pool ≡ b1
  now1 = omega (arith, second.less, still1, can.left1)

  both : send_both ledger pool out0 out1 (holders.User actor) ≡ ledger_only sent
  unfolding send_both
  both = rw (transfer_made ledger (asset0 pool) (holders.Pool pool) (holders.User actor) out0 (omega (arith, can.left0)) not_itself)
      (transfer_made half (asset1 pool) (holders.Pool pool) (holders.User actor) out1 funds1 not_itself)

  abbrev new : PairRecord
  new = unlocked_pair (renewed_record pair ledger.time (held0 sent pool) (held1 sent pool))

  abbrev made : Made SwapReceipt
  made = record { ledger = with_pair sent pool new; answer = came_to pair (held0 sent pool) (held1 sent pool) out0 out1 }

  ends : settle_swap sent pool pair out0 out1 ≡ Ok made
  unfolding settle_swap updated_record_to
  ends =
      let room0 : nat_lt RESERVE_LIMIT (held0 sent pool) ≡ false = le-ltb RESERVE_LIMIT (held0 sent pool) (omega (arith, now0, can.room0)) in
      let room1 : nat_lt RESERVE_LIMIT (held1 sent pool) ≡ false = le-ltb RESERVE_LIMIT (held1 sent pool) (omega (arith, now1, can.room1)) in
      let paid : (held0 sent pool - (pair.r0 - out0) == 0 && held1 sent pool - (pair.r1 - out1) == 0) ≡ false =
      subst (λ (x : ℕ). (x - (pair.r0 - out0) == 0 && held1 sent pool - (pair.r1 - out1) == 0) ≡ false) (sym now0)
      (subst (λ (y : ℕ). (b0 - (pair.r0 - out0) == 0 && y - (pair.r1 - out1) == 0) ≡ false) (sym now1) can.paid) in
      let rule : admits (pool_fee pool) pair.r0 pair.r1 (held0 sent pool) (held1 sent pool) (held0 sent pool - (pair.r0 - out0)) (held1 sent pool - (pair.r1 - out1)) ≡ true =
      subst (λ (x : ℕ). admits (pool_fee pool) pair.r0 pair.r1 x (held1 sent pool) (x - (pair.r0 - out0)) (held1 sent pool - (pair.r1 - out1)) ≡ true) (sym now0)
      (subst (λ (y : ℕ). admits (pool_fee pool) pair.r0 pair.r1 b0 y (b0 - (pair.r0 - out0)) (y - (pair.r1 - out1)) ≡ true) (sym now1) can.rule) in
      rw (paid, rule, room0, room1) refl

  pub swap_done : SwapDone ledger pool out0 out1 actor
  unfolding swap_straight
  swap_done = record {
    value = made;
    is = swap_is_straight ledger pool out0 out1 (holders.User actor) ∙ rw (lends, both) ends;
    leaves = record { half = half; sent = sent; first = first; second = second; pair = new; after = refl };
  }
