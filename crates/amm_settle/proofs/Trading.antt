-- What is known of a pool as it was quoted, and what a payment and a swap leave.
use Rattle.std.proofs.Common.{◌≡◌, ◌≢◌, ◌+◌, ℕ, false, Some, inl, inr, ◌⊎◌, ap, ◌∙◌}
use Rattle.amm_names.specs.declared.holder.Holder.{Holder}
use Rattle.amm_names.specs.declared.holder.Holder.TheVariants as holders
use Rattle.amm_names.specs.declared.holder.Asset.{Asset}
use Rattle.amm_names.specs.declared.holder.Asset.TheVariants as assets
use Rattle.amm_model.specs.declared.pair.PairRecord.{PairRecord}
use Rattle.amm_model.specs.declared.problem.ProblemPool.{ProblemPool}
use Rattle.amm_model.specs.Outcome.{◌>>=◌, ledger_only}
use Rattle.amm_model.specs.Ledger.{Ledger, Pairs, balance, pair_of, with_pair}
use Rattle.amm_model.specs.Postings.{transfer}
use Rattle.amm_model.specs.Pools.{held0, held1}
use Rattle.amm_model.specs.Swap.{IsFee}
use Rattle.amm_model.specs.Routing.{HasReserves, HasBalances, fee_of, token0_of, token1_of}
use Rattle.amm_names.specs.Names.{Name}
use Rattle.amm_model.specs.Operations.{swap}
use Rattle.amm_model.proofs.Names.{some_there, pair_of-set_other}
use Rattle.amm_model.proofs.Moved.{Moved}

-- The pool has a pair that is free, and reserves and balances are as they were kept.
pub record IsAsKept (ledger : Ledger) (pool : ProblemPool) : Type 0 where
  pub pair : PairRecord
  pub there : pair_of ledger.pairs pool.name ≡ Some pair
  pub free : pair.locked ≡ false
  pub r0 : pair.r0 ≡ pool.r0
  pub r1 : pair.r1 ≡ pool.r1
  pub b0 : held0 ledger pool.name ≡ pool.b0
  pub b1 : held1 ledger pool.name ≡ pool.b1

-- What is known of the pool of a leg.
pub record IsSoundPool (pool : ProblemPool) : Type 0 where
  pub apart : token0_of pool ≢ token1_of pool
  pub fee : IsFee (fee_of pool)
  pub reserves : HasReserves pool
  pub balances : HasBalances pool

-- An input went to the pool and an output came out of it, and nothing else changed but its record.
pub record IsTraded (pool : ProblemPool) (actor : Name) (from to : Name) (input output : ℕ) (old new : Ledger) : Type 0 where
  pub less : balance new (assets.Token from) (holders.User actor) + input ≡ balance old (assets.Token from) (holders.User actor)
  pub more : balance new (assets.Token to) (holders.User actor) ≡ balance old (assets.Token to) (holders.User actor) + output
  pub own : (any : Asset) → any ≢ assets.Token from → any ≢ assets.Token to → balance new any (holders.User actor) ≡ balance old any (holders.User actor)
  pub others : (any : Asset) (who : Holder) → who ≢ holders.User actor → who ≢ holders.Pool pool.name → balance new any who ≡ balance old any who
  pub pairs : (name : Name) → name ≢ pool.name → pair_of new.pairs name ≡ pair_of old.pairs name

-- A payment and a swap, and what they leave.
pub record TradeDone (old : Ledger) (pool : ProblemPool) (actor : Name) (from to : Name) (out0 out1 input output : ℕ) : Type 0 where
  pub ledger : Ledger
  pub is : (transfer old (assets.Token from) (holders.User actor) (holders.Pool pool.name) input >>= λ sent. (swap sent.ledger pool.name out0 out1 (holders.User actor) >>= λ made. ledger_only made.ledger)) ≡ ledger_only ledger
  pub traded : IsTraded pool actor from to input output old ledger

-- what an account has after the payment and both outputs, where none of them touches it
pub untouched : (a b c : Asset) (f t : Holder) (l m n : ℕ) (old paid half sent : Ledger) → Moved a f t l old paid → Moved b t f m paid half → Moved c t f n half sent → (any : Asset) (who : Holder)
    → (any ≢ a) ⊎ ((who ≢ f) × (who ≢ t)) → (any ≢ b) ⊎ ((who ≢ f) × (who ≢ t)) → (any ≢ c) ⊎ ((who ≢ f) × (who ≢ t)) → balance sent any who ≡ balance old any who
untouched a b c f t l m n old paid half sent one two three any who pa pb pc = three.others any who (turn pc) ∙ two.others any who (turn pb) ∙ one.others any who pa
  where
    turn : {X : Type 0} → X ⊎ ((who ≢ f) × (who ≢ t)) → X ⊎ ((who ≢ t) × (who ≢ f))
    turn (inl x) = inl x
    turn (inr both) = inr (both.1, both.0)

pub other_pairs : (pool : Name) (a b c : Asset) (f t : Holder) (l m n : ℕ) (old paid half sent : Ledger) (was new : PairRecord) → pair_of old.pairs pool ≡ Some was
    → Moved a f t l old paid → Moved b t f m paid half → Moved c t f n half sent → (name : Name) → name ≢ pool → pair_of (with_pair sent pool new).pairs name ≡ pair_of old.pairs name
other_pairs pool a b c f t l m n old paid half sent was new there one two three name apart =
    let same : sent.pairs ≡ old.pairs = three.rest.pairs ∙ two.rest.pairs ∙ one.rest.pairs in
    pair_of-set_other sent.pairs pool new name (some_there (pair_of sent.pairs pool) was (ap (λ (ps : Pairs). pair_of ps pool) same ∙ there)) apart
    ∙ ap (λ (ps : Pairs). pair_of ps name) same
