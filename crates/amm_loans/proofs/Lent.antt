-- A loan of a free pool to a user, and its return, where their tests pass.
use Rattle.std.proofs.Common.{◌≡◌, ◌≢◌, ◌≤◌, ◌-◌, ℕ, nat_lt, nat_le, ◌==◌, ◌&&◌, ◌||◌, true, false, Some, Ok, inl, refl, sym, ◌∙◌, arith}
use Rattle.std.proofs.lemmas.Bool.{le-ltb}
use Rattle.std.proofs.lemmas.Bool.Decides.{nat_tests}
use Rattle.amm_names.specs.Names.{Name}
use Rattle.amm_names.specs.declared.holder.Holder.{Holder}
use Rattle.amm_names.specs.declared.holder.Holder.TheVariants as holders
use Rattle.amm_names.specs.Pools.{pool_token0, pool_token1, pool_fee}
use Rattle.amm_model.specs.declared.pair.PairRecord.{PairRecord}
use Rattle.amm_model.specs.declared.pair.SwapReceipt.{SwapReceipt}
use Rattle.amm_model.specs.declared.problem.ProblemPool.{ProblemPool}
use Rattle.amm_model.specs.declared.limits.TheConstants.{RESERVE_LIMIT}
use Rattle.amm_model.specs.Outcome.{Made, ledger_only}
use Rattle.amm_model.specs.Ledger.{Ledger, balance, with_transfer, pair_of, with_pair}
use Rattle.amm_model.specs.Pools.{asset0, asset1, held0, held1}
use Rattle.amm_model.specs.Swap.{admits}
use Rattle.amm_model.specs.Operations.{renewed_record, updated_record_to, locked_pair, unlocked_pair, send_both, lending_pair, lend, came_to, settle_swap, give_back}
use Rattle.amm_model.proofs.Soundness.{tokens_apart}
use Rattle.amm_model.proofs.Moved.{Moved, moved_moved, transfer_made}
use Rattle.amm_pair.proofs.Straight.{give_back_is}
use Rattle.amm_settle.proofs.Trading.{IsAsKept, IsSoundPool}
use Rattle.amm_loans.proofs.Fair.{IsFair}

-- Both outputs of a pool went to a user, and its pair is locked.
pub record IsLent (pool : Name) (pair : PairRecord) (out0 out1 : ℕ) (actor : Name) (old new : Ledger) : Type 0 where
  pub half : Ledger
  pub first : Moved (asset0 pool) (holders.Pool pool) (holders.User actor) out0 (with_pair old pool (locked_pair pair)) half
  pub second : Moved (asset1 pool) (holders.Pool pool) (holders.User actor) out1 half new

-- A loan was made.
pub record LendDone (old : Ledger) (pool : Name) (pair : PairRecord) (out0 out1 : ℕ) (actor : Name) : Type 0 where
  pub value : Made PairRecord
  pub is : lend old pool out0 out1 (holders.User actor) ≡ Ok value
  pub leaves : IsLent pool pair out0 out1 actor old value.ledger

module _ (ledger : Ledger) (pool : ProblemPool) (out0 out1 b0 b1 : ℕ) (actor : Name) (kept : IsAsKept ledger pool) (sound : IsSoundPool pool) (fair : IsFair pool out0 out1 b0 b1) where
  lends : lending_pair ledger pool.name out0 out1 (holders.User actor) ≡ Ok kept.pair
  unfolding lending_pair
  lends =
      let less : (nat_le kept.pair.r0 out0 || nat_le kept.pair.r1 out1) ≡ false = grind (arith, nat_tests, fair.within0, fair.within1, kept.r0, kept.r1) in
      rw (kept.there, kept.free, fair.some, less) refl

  not_itself : (◌≢◌ {A = Holder} (holders.Pool pool.name) (holders.User actor))
  not_itself e = cc

  abbrev start : Ledger
  start = with_pair ledger pool.name (locked_pair kept.pair)

  abbrev half : Ledger
  half = with_transfer start (asset0 pool.name) (holders.Pool pool.name) (holders.User actor) out0

  abbrev sent : Ledger
  sent = with_transfer half (asset1 pool.name) (holders.Pool pool.name) (holders.User actor) out1

  funds0 : out0 ≤ balance start (asset0 pool.name) (holders.Pool pool.name)
  funds0 = omega (arith, kept.b0, fair.within0, sound.balances.0)

  first : Moved (asset0 pool.name) (holders.Pool pool.name) (holders.User actor) out0 start half
  first = moved_moved start (asset0 pool.name) (holders.Pool pool.name) (holders.User actor) out0 funds0 not_itself

  -- the first output leaves what the pool has of the other token
  still1 : balance half (asset1 pool.name) (holders.Pool pool.name) ≡ held1 ledger pool.name
  still1 = first.others (asset1 pool.name) (holders.Pool pool.name) (inl (tokens_apart (pool_token1 pool.name) (pool_token0 pool.name) (λ e. sound.apart (sym e))))

  funds1 : out1 ≤ balance half (asset1 pool.name) (holders.Pool pool.name)
  funds1 = omega (arith, still1, kept.b1, fair.within1, sound.balances.2)

  second : Moved (asset1 pool.name) (holders.Pool pool.name) (holders.User actor) out1 half sent
  second = moved_moved half (asset1 pool.name) (holders.Pool pool.name) (holders.User actor) out1 funds1 not_itself

  both : send_both start pool.name out0 out1 (holders.User actor) ≡ ledger_only sent
  unfolding send_both
  both = rw (transfer_made start (asset0 pool.name) (holders.Pool pool.name) (holders.User actor) out0 funds0 not_itself)
      (transfer_made half (asset1 pool.name) (holders.Pool pool.name) (holders.User actor) out1 funds1 not_itself)

  pub lend_done : LendDone ledger pool.name kept.pair out0 out1 actor
  unfolding lend
  lend_done = record {
    value = record { ledger = sent; answer = locked_pair kept.pair };
    is = rw (lends, both) refl;
    leaves = record { half = half; first = first; second = second };
  }

-- A loan was returned: the pair has another record.
pub record ReturnDone (old : Ledger) (pool : Name) (out0 out1 : ℕ) : Type 0 where
  pub value : Made SwapReceipt
  pub is : give_back old pool out0 out1 ≡ Ok value
  pub pair : PairRecord
  pub after : value.ledger ≡ with_pair old pool pair

module _ (ledger : Ledger) (pool : ProblemPool) (pair : PairRecord) (out0 out1 b0 b1 : ℕ) (there : pair_of ledger.pairs pool.name ≡ Some pair)
    (r0 : pair.r0 ≡ pool.r0) (r1 : pair.r1 ≡ pool.r1) (now0 : held0 ledger pool.name ≡ b0) (now1 : held1 ledger pool.name ≡ b1) (fair : IsFair pool out0 out1 b0 b1) where
  abbrev has0 : ℕ
  has0 = held0 ledger pool.name

  abbrev has1 : ℕ
  has1 = held1 ledger pool.name

  abbrev new : PairRecord
  new = unlocked_pair (renewed_record pair ledger.time has0 has1)

  abbrev made : Made SwapReceipt
  made = record { ledger = with_pair ledger pool.name new; answer = came_to pair has0 has1 out0 out1 }

  paid : (has0 - (pair.r0 - out0) == 0 && has1 - (pair.r1 - out1) == 0) ≡ false
  paid = rw (now0, now1, r0, r1) fair.paid

  rule : admits (pool_fee pool.name) pair.r0 pair.r1 has0 has1 (has0 - (pair.r0 - out0)) (has1 - (pair.r1 - out1)) ≡ true
  rule = rw (now0, now1, r0, r1) fair.rule

  ends : settle_swap ledger pool.name pair out0 out1 ≡ Ok made
  unfolding settle_swap updated_record_to
  ends =
      let room0 : nat_lt RESERVE_LIMIT has0 ≡ false = le-ltb RESERVE_LIMIT has0 (omega (arith, now0, fair.room0)) in
      let room1 : nat_lt RESERVE_LIMIT has1 ≡ false = le-ltb RESERVE_LIMIT has1 (omega (arith, now1, fair.room1)) in
      rw (paid, rule, room0, room1) refl

  pub return_done : ReturnDone ledger pool.name out0 out1
  return_done = record { value = made; is = give_back_is ledger pool.name out0 out1 pair there ∙ ends; pair = new; after = refl }
