-- Settling a quote: each leg is paid and performed as it was quoted, while its pools are as they
-- were; and what the user has then.
use Rattle.std.specs.Prelude.{ℕ, ◌≡◌, ◌≢◌, ◌⊎◌, ◌+◌, ◌≤◌, ◌==◌, Bool, true, false, not, ◌&&◌, nat_lt, All, List, [], ◌∷◌, map, Option, Some, None, Ok, if◌then◌else◌}
use Rattle.std.specs.List.{list_any, list_all}
use Rattle.amm_names.specs.declared.holder.Holder.{Holder}
use Rattle.amm_names.specs.declared.holder.Holder.TheVariants as holder
use Rattle.amm_names.specs.declared.holder.Asset.{Asset}
use Rattle.amm_names.specs.declared.holder.Asset.TheVariants as asset
use Rattle.amm_model.specs.declared.pair.PairRecord.{PairRecord}
use Rattle.amm_model.specs.declared.problem.ProblemPool.{ProblemPool}
use Rattle.amm_model.specs.declared.route.Leg.{Leg}
use Rattle.amm_model.specs.declared.route.Quote.{Quote}
use Rattle.amm_model.specs.declared.fault.Refusal.{Refusal}
use Rattle.amm_model.specs.declared.fault.Refusal.TheVariants as code
use Rattle.amm_model.specs.Outcome.{◌>>=◌, refuse_if, Outcome, ledger_only}
use Rattle.amm_model.specs.Ledger.{Ledger, balance, pair_of}
use Rattle.amm_model.specs.Postings.{transfer}
use Rattle.amm_model.specs.Pools.{held0, held1}
use Rattle.amm_model.specs.Operations.{swap}
use Rattle.amm_names.specs.Names.{Name}
use Rattle.amm_model.specs.Legs.{leg_pool, token_in}

-- The pools of a quote's legs.
abbrev pub pools_of_legs : Quote → List ProblemPool
pools_of_legs quote = map (leg_pool quote.problem.pools) quote.route.legs

-- Whether the pair of a pool is locked.
abbrev pub is_locked : Option PairRecord → Bool
is_locked None = false
is_locked (Some pair) = pair.locked

-- Whether a pool is there with the reserves and balances that were kept.
abbrev pub is_as_kept : Ledger → ProblemPool → Option PairRecord → Bool
is_as_kept ledger pool None = false
is_as_kept ledger pool (Some pair) =
    pair.r0 == pool.r0 && pair.r1 == pool.r1 && held0 ledger pool.name == pool.b0 && held1 ledger pool.name == pool.b1

abbrev pub any_locked : Ledger → List ProblemPool → Bool
any_locked ledger pools = list_any (λ pool. is_locked (pair_of ledger.pairs pool.name)) pools

abbrev pub all_as_kept : Ledger → List ProblemPool → Bool
all_as_kept ledger pools = list_all (λ pool. is_as_kept ledger pool (pair_of ledger.pairs pool.name)) pools

-- A leg: its input goes from the actor to the pool, and the pool swaps its output to the actor.
unfoldable pub perform_leg : Ledger → (actor : Name) → List ProblemPool → Leg → Outcome (Unit {0})
perform_leg ledger actor pools leg = do
  paid ← transfer ledger (asset.Token (token_in pools leg)) (holder.User actor) (holder.Pool (leg_pool pools leg).name) leg.input
  swapped ← swap paid.ledger (leg_pool pools leg).name (if leg.zero_in then 0 else leg.output) (if leg.zero_in then leg.output else 0) (holder.User actor)
  ledger_only swapped.ledger

-- Legs one after the other.
unfoldable pub perform_legs : Ledger → (actor : Name) → List ProblemPool → List Leg → Outcome (Unit {0})
perform_legs ledger actor pools [] = ledger_only ledger
perform_legs ledger actor pools (leg ∷ legs) = do
  made ← perform_leg ledger actor pools leg
  perform_legs made.ledger actor pools legs

-- A kept quote for a user, who has all that it was asked for; the answer is what it said that it
-- delivers.
unfoldable pub settle : Ledger → (actor : Name) → Quote → (deadline : ℕ) → Outcome ℕ
settle ledger actor quote deadline = do
  _ ← refuse_if (nat_lt deadline ledger.time) code.Expired
  _ ← refuse_if (any_locked ledger (pools_of_legs quote)) code.Locked
  _ ← refuse_if (not (all_as_kept ledger (pools_of_legs quote))) code.Stale
  _ ← refuse_if (nat_lt (balance ledger (asset.Token quote.problem.s) (holder.User actor)) quote.problem.d) code.Funds
  performed ← perform_legs ledger actor quote.problem.pools quote.route.legs
  Ok (record { ledger = performed.ledger; answer = quote.delivered })

-- A settlement that has to be accepted: it is in time, the pools of the legs are not locked and as
-- they were kept, and the user has what the quote was asked for.
pub record IsDue (ledger : Ledger) (actor : Name) (quote : Quote) (deadline : ℕ) : Type 0 where
  pub in_time : ledger.time ≤ deadline
  pub free : any_locked ledger (pools_of_legs quote) ≡ false
  pub kept : all_as_kept ledger (pools_of_legs quote) ≡ true
  pub funds : quote.problem.d ≤ balance ledger (asset.Token quote.problem.s) (holder.User actor)

-- The user has what the quote delivers, paid at most what it was asked for, and lost nothing else;
-- and nobody but the pools of its legs had a part in it.
pub record IsPaidAsQuoted (old new : Ledger) (actor : Name) (quote : Quote) : Type 0 where
  pub gets : balance new (asset.Token quote.problem.t) (holder.User actor) ≡ balance old (asset.Token quote.problem.t) (holder.User actor) + quote.delivered
  pub pays : balance old (asset.Token quote.problem.s) (holder.User actor) ≤ balance new (asset.Token quote.problem.s) (holder.User actor) + quote.problem.d
  pub keeps : (other : Asset) → other ≢ asset.Token quote.problem.s → balance old other (holder.User actor) ≤ balance new other (holder.User actor)
  pub others : (any : Asset) (who : Holder) → who ≢ holder.User actor → All (λ (pool : ProblemPool). who ≢ holder.Pool pool.name) (pools_of_legs quote) →
      balance new any who ≡ balance old any who

-- The codes of a settlement, of which no leg has one.
abbrev pub IsCodeOfSettling : Refusal → Type 0
IsCodeOfSettling why = (why ≡ code.Expired) ⊎ (why ≡ code.Locked) ⊎ (why ≡ code.Stale) ⊎ (why ≡ code.Funds)
