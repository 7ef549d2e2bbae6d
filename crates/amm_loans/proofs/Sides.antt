-- A loan by the token that goes in and the one that was lent, whichever side of its pool they are.
use Rattle.std.proofs.Common.{◌≡◌, ◌≢◌, ◌≤◌, ◌<◌, ◌+◌, ◌-◌, ◌^◌, ℕ, ◌⊎◌, Some, inl, inr, sym, ap, ◌∙◌, arith}
use Rattle.amm_names.specs.Names.{Name}
use Rattle.amm_names.specs.Pools.{pool_token0, pool_token1}
use Rattle.amm_names.specs.declared.holder.Holder.{Holder}
use Rattle.amm_names.specs.declared.holder.Holder.TheVariants as holders
use Rattle.amm_names.specs.declared.holder.Asset.{Asset}
use Rattle.amm_names.specs.declared.holder.Asset.TheVariants as assets
use Rattle.amm_model.specs.declared.pair.PairRecord.{PairRecord}
use Rattle.amm_model.specs.declared.problem.ProblemPool.{ProblemPool}
use Rattle.amm_model.specs.Ledger.{Ledger, Pairs, balance, pair_of, with_pair}
use Rattle.amm_model.specs.Pools.{asset0, asset1, held0, held1}
use Rattle.amm_model.specs.Operations.{locked_pair}
use Rattle.amm_model.specs.Routing.{fee_of, token0_of, token1_of}
use Rattle.amm_model.specs.Swap.{amount_out_of}
use Rattle.amm_model.proofs.Balances.{Rest, rest_then}
use Rattle.amm_model.proofs.Moved.{Moved}
use Rattle.amm_model.proofs.Names.{asset_cases, holder_cases, some_there, pair_of-set_here, pair_of-set_other}
use Rattle.amm_model.proofs.Soundness.{tokens_apart}
use Rattle.amm_settle.proofs.Trading.{IsAsKept, IsSoundPool}
use Rattle.amm_loans.proofs.Fair.{IsFair, zero_fair, one_fair}
use Rattle.amm_loans.proofs.Lent.{IsLent}

-- So much of a token went from the pool to the actor, and its pair is locked.
pub record IsBorrowed (pool : ProblemPool) (pair : PairRecord) (actor to : Name) (y : ℕ) (old new : Ledger) : Type 0 where
  pub gives : balance new (assets.Token to) (holders.User actor) ≡ balance old (assets.Token to) (holders.User actor) + y
  pub takes : balance new (assets.Token to) (holders.Pool pool.name) + y ≡ balance old (assets.Token to) (holders.Pool pool.name)
  pub others : (any : Asset) (who : Holder) → (any ≢ assets.Token to) ⊎ ((who ≢ holders.Pool pool.name) × (who ≢ holders.User actor)) → balance new any who ≡ balance old any who
  pub tokens : new.tokens ≡ old.tokens
  pub here : pair_of new.pairs pool.name ≡ Some (locked_pair pair)
  pub pairs : (name : Name) → name ≢ pool.name → pair_of new.pairs name ≡ pair_of old.pairs name

-- nothing was moved
nothing_moved : (a : Asset) (f t : Holder) (old new : Ledger) → Moved a f t 0 old new → (any : Asset) (who : Holder) → balance new any who ≡ balance old any who
nothing_moved a f t old new moved any who = elim (asset_cases any a) [
  | inr other ↦ moved.others any who (inl other)
  | inl same ↦ elim (holder_cases who f) [
    | inl giver ↦ rw (same, giver) (omega (arith, moved.less))
    | inr not_giver ↦ elim (holder_cases who t) [
      | inl taker ↦ rw (same, taker) (omega (arith, moved.more))
      | inr not_taker ↦ moved.others any who (inr (not_giver, not_taker))
    ]
  ]
]

module _ (pool : ProblemPool) (pair : PairRecord) (out0 out1 : ℕ) (actor : Name) (old new : Ledger) (at : pair_of old.pairs pool.name ≡ Some pair) (lent : IsLent pool.name pair out0 out1 actor old new) where
  abbrev start : Ledger
  start = with_pair old pool.name (locked_pair pair)

  rest : Rest start new
  rest = rest_then start lent.half new lent.first.rest lent.second.rest

  pub lent_here : pair_of new.pairs pool.name ≡ Some (locked_pair pair)
  lent_here = ap (λ (ps : Pairs). pair_of ps pool.name) rest.pairs ∙ pair_of-set_here old.pairs pool.name (locked_pair pair) (some_there (pair_of old.pairs pool.name) pair at)

  pub lent_pairs : (name : Name) → name ≢ pool.name → pair_of new.pairs name ≡ pair_of old.pairs name
  lent_pairs name apart = ap (λ (ps : Pairs). pair_of ps name) rest.pairs ∙ pair_of-set_other old.pairs pool.name (locked_pair pair) name (some_there (pair_of old.pairs pool.name) pair at) apart

  pub lent_tokens : new.tokens ≡ old.tokens
  lent_tokens = rest.tokens

-- A loan of y of the one token for x of the other.
pub record IsSide (pool : ProblemPool) (actor from to : Name) (x y out0 out1 b0 b1 : ℕ) : Type 0 where
  pub apart : from ≢ to
  pub fair : IsFair pool out0 out1 b0 b1
  pub borrowed : (pair : PairRecord) (old new : Ledger) → pair_of old.pairs pool.name ≡ Some pair → IsLent pool.name pair out0 out1 actor old new → IsBorrowed pool pair actor to y old new
  pub back : (old new : Ledger) → IsAsKept old pool → balance new (assets.Token from) (holders.Pool pool.name) ≡ balance old (assets.Token from) (holders.Pool pool.name) + x
      → balance new (assets.Token to) (holders.Pool pool.name) + y ≡ balance old (assets.Token to) (holders.Pool pool.name) → (held0 new pool.name ≡ b0) × (held1 new pool.name ≡ b1)

module _ (pool : ProblemPool) (actor : Name) (x y : ℕ) (sound : IsSoundPool pool) (some : 1 ≤ x) (gives : 1 ≤ y) where
  first_apart : (◌≢◌ {A = Asset} (asset0 pool.name) (asset1 pool.name))
  first_apart = tokens_apart (pool_token0 pool.name) (pool_token1 pool.name) sound.apart

  second_apart : (◌≢◌ {A = Asset} (asset1 pool.name) (asset0 pool.name))
  second_apart e = first_apart (sym e)

  -- token 0 goes in
  pub zero_side : y ≡ amount_out_of (fee_of pool) x pool.r0 pool.r1 → pool.b0 + x < 2 ^ 48 → pool.b1 < 2 ^ 48 → IsSide pool actor (token0_of pool) (token1_of pool) x y 0 y (pool.b0 + x) (pool.b1 - y)
  zero_side pays room admissible = record {
    apart = sound.apart;
    fair = zero_fair pool x y sound some gives pays room admissible;
    borrowed = λ pair old new at lent. record {
      gives = omega (arith, lent.second.more, lent.first.others (asset1 pool.name) (holders.User actor) (inl second_apart));
      takes = omega (arith, lent.second.less, lent.first.others (asset1 pool.name) (holders.Pool pool.name) (inl second_apart));
      others = λ any who apart. lent.second.others any who apart ∙ nothing_moved _ _ _ _ _ lent.first any who;
      tokens = lent_tokens pool pair 0 y actor old new at lent;
      here = lent_here pool pair 0 y actor old new at lent;
      pairs = lent_pairs pool pair 0 y actor old new at lent;
    };
    back = λ old new kept came gone. (omega (arith, came, kept.b0), omega (arith, gone, kept.b1));
  }

  -- token 1 goes in
  pub one_side : y ≡ amount_out_of (fee_of pool) x pool.r1 pool.r0 → pool.b1 + x < 2 ^ 48 → pool.b0 < 2 ^ 48 → IsSide pool actor (token1_of pool) (token0_of pool) x y y 0 (pool.b0 - y) (pool.b1 + x)
  one_side pays room admissible = record {
    apart = λ e. sound.apart (sym e);
    fair = one_fair pool x y sound some gives pays room admissible;
    borrowed = λ pair old new at lent. record {
      gives = omega (arith, lent.first.more, lent.second.others (asset0 pool.name) (holders.User actor) (inl first_apart));
      takes = omega (arith, lent.first.less, lent.second.others (asset0 pool.name) (holders.Pool pool.name) (inl first_apart));
      others = λ any who apart. nothing_moved _ _ _ _ _ lent.second any who ∙ lent.first.others any who apart;
      tokens = lent_tokens pool pair y 0 actor old new at lent;
      here = lent_here pool pair y 0 actor old new at lent;
      pairs = lent_pairs pool pair y 0 actor old new at lent;
    };
    back = λ old new kept came gone. (omega (arith, gone, kept.b0), omega (arith, came, kept.b1));
  }
