-- A trade that puts in token 0 of a pool as it was quoted is made.
use Rattle.std.proofs.Common.{◌≡◌, ◌≢◌, ◌≤◌, ◌<◌, ◌+◌, ◌-◌, ◌^◌, ℕ, true, inl, inr, refl, sym, ap, ◌∙◌, arith, subst}
use Rattle.std.proofs.lemmas.Bool.Decides.{nat_tests}
use Rattle.amm_names.specs.declared.holder.Holder.{Holder}
use Rattle.amm_names.specs.declared.holder.Holder.TheVariants as holders
use Rattle.amm_names.specs.declared.holder.Asset.{Asset}
use Rattle.amm_names.specs.Pools.{pool_token0, pool_token1}
use Rattle.amm_model.specs.declared.problem.ProblemPool.{ProblemPool}
use Rattle.amm_model.specs.Ledger.{Ledger, Pairs, balance, with_transfer, pair_of}
use Rattle.amm_model.specs.Pools.{asset0, asset1, held1}
use Rattle.amm_model.specs.Swap.{Admits, admits, amount_out_of}
use Rattle.amm_model.specs.Routing.{fee_of, token0_of, token1_of}
use Rattle.amm_names.specs.Names.{Name}
use Rattle.amm_model.proofs.Soundness.{tokens_apart}
use Rattle.amm_model.proofs.Swap.{fee_range, amount_out-lt}
use Rattle.amm_model.proofs.Moved.{Moved, moved_moved, transfer_made}
use Rattle.amm_pair.proofs.Swapping.{CanSwap, SwapDone, swap_done}
use Rattle.amm_model.proofs.Rule.{rule_kept}
use Rattle.amm_settle.proofs.Trading.{IsAsKept, IsSoundPool, IsTraded, TradeDone, untouched, other_pairs}

module _ (ledger : Ledger) (pool : ProblemPool) (actor : Name) (x y : ℕ) (kept : IsAsKept ledger pool) (sound : IsSoundPool pool)
    (some : 1 ≤ x) (gives : 1 ≤ y) (pays : y ≡ amount_out_of (fee_of pool) x pool.r0 pool.r1)
    (room : pool.b0 + x < 2 ^ 48) (admissible : pool.b1 < 2 ^ 48) (funds : x ≤ balance ledger (asset0 pool.name) (holders.User actor)) where
  not_itself : (◌≢◌ {A = Holder} (holders.User actor) (holders.Pool pool.name))
  not_itself e = cc

  abbrev paid : Ledger
  paid = with_transfer ledger (asset0 pool.name) (holders.User actor) (holders.Pool pool.name) x

  in_apart : (◌≢◌ {A = Asset} (asset0 pool.name) (asset1 pool.name))
  in_apart = tokens_apart (pool_token0 pool.name) (pool_token1 pool.name) (λ e. sound.apart e)

  out_apart : (◌≢◌ {A = Asset} (asset1 pool.name) (asset0 pool.name))
  out_apart e = in_apart (sym e)

  payment : Moved (asset0 pool.name) (holders.User actor) (holders.Pool pool.name) x ledger paid
  payment = moved_moved ledger (asset0 pool.name) (holders.User actor) (holders.Pool pool.name) x funds not_itself

  still : held1 paid pool.name ≡ held1 ledger pool.name
  still = payment.others (asset1 pool.name) (holders.Pool pool.name) (inl out_apart)

  below : y < pool.r1
  below = subst (λ (n : ℕ). n < pool.r1) (sym pays) (amount_out-lt (fee_of pool) x pool.r0 pool.r1 sound.reserves.0 sound.reserves.2)

  abbrev more : ℕ
  more = pool.b0 + x

  abbrev fewer : ℕ
  fewer = pool.b1 - y

  rule : (s t k : ℕ) → pool.r0 + s ≡ pool.b0 → pool.r1 + t ≡ pool.b1 → k + y ≡ pool.r1
      → admits (fee_of pool) kept.pair.r0 kept.pair.r1 more fewer (more - (kept.pair.r0 - 0)) (fewer - (kept.pair.r1 - y)) ≡ true
  rule s t k e0 e1 ek =
      let m : Admits (fee_of pool) pool.r0 pool.r1 ((pool.r0 + s) + x) (k + t) (s + x) t =
      rule_kept (fee_of pool) pool.r0 pool.r1 x k s t (omega (arith, fee_range (fee_of pool) sound.fee)) sound.reserves.0 sound.reserves.2 (omega (arith, pays, below)) in
      let i : more - (kept.pair.r0 - 0) ≡ s + x = omega (arith, kept.r0) in
      let j : fewer - (kept.pair.r1 - y) ≡ t = omega (arith, kept.r1) in
      let n : more ≡ (pool.r0 + s) + x = omega arith in
      let o : fewer ≡ k + t = omega arith in
      rw (i, j, n, o, kept.r0, kept.r1) (m)

  can : CanSwap paid pool.name kept.pair 0 y more fewer
  can = record {
    apart = sound.apart;
    there = ap (λ (ps : Pairs). pair_of ps pool.name) payment.rest.pairs ∙ kept.there;
    free = kept.free;
    some = grind (arith, nat_tests, gives);
    within0 = omega (arith, kept.r0, below, sound.reserves.0);
    within1 = omega (arith, kept.r1, below, sound.reserves.2);
    left0 = omega (arith, payment.more, still, kept.b0, below, sound.balances.0);
    left1 = omega (arith, payment.more, still, kept.b1, below, sound.balances.2);
    paid = (let i : 1 ≤ more - (kept.pair.r0 - 0) = omega (arith, kept.r0, sound.balances.0) in grind (arith, nat_tests));
    rule = rule (pool.b0 - pool.r0) (pool.b1 - pool.r1) (pool.r1 - y) (omega (arith, sound.balances.0)) (omega (arith, sound.balances.2)) (omega (arith, below));
    room0 = omega arith;
    room1 = omega arith;
  }

  swapped : SwapDone paid pool.name 0 y actor
  swapped = swap_done paid pool.name kept.pair 0 y more fewer actor can

  pub zero_done : TradeDone ledger pool actor (token0_of pool) (token1_of pool) 0 y x y
  zero_done = record {
    ledger = swapped.value.ledger;
    is = rw (transfer_made ledger (asset0 pool.name) (holders.User actor) (holders.Pool pool.name) x funds not_itself, swapped.is) refl;
    traded = subst (IsTraded pool actor (token0_of pool) (token1_of pool) x y ledger) (sym swapped.leaves.after) record {
      less = omega (arith, payment.less, swapped.leaves.first.more, swapped.leaves.second.others (asset0 pool.name) (holders.User actor) (inl in_apart));
      more = omega (arith, swapped.leaves.second.more, swapped.leaves.first.others (asset1 pool.name) (holders.User actor) (inl out_apart), payment.others (asset1 pool.name) (holders.User actor) (inl out_apart));
      own = λ any from to. untouched (asset0 pool.name) (asset0 pool.name) (asset1 pool.name) (holders.User actor) (holders.Pool pool.name) x 0 y ledger paid swapped.leaves.half swapped.leaves.sent
          payment swapped.leaves.first swapped.leaves.second any (holders.User actor) (inl from) (inl from) (inl to);
      others = λ any who user itself. untouched (asset0 pool.name) (asset0 pool.name) (asset1 pool.name) (holders.User actor) (holders.Pool pool.name) x 0 y ledger paid swapped.leaves.half swapped.leaves.sent
          payment swapped.leaves.first swapped.leaves.second any who (inr (user, itself)) (inr (user, itself)) (inr (user, itself));
      pairs = other_pairs pool.name (asset0 pool.name) (asset0 pool.name) (asset1 pool.name) (holders.User actor) (holders.Pool pool.name) x 0 y ledger paid swapped.leaves.half swapped.leaves.sent
          kept.pair swapped.leaves.pair kept.there payment swapped.leaves.first swapped.leaves.second;
    };
  }
