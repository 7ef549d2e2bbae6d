-- What a command to sell a basket may come to, and what its seller has then.
use Rattle.std.specs.Prelude.{ℕ, ◌≡◌, ◌≢◌, ◌+◌, ◌<◌, ◌≤◌, ◌⊎◌, ◌==◌, not, nat_lt, All, List, map, Contains, Result, Ok, Err, MatchResult}
use Rattle.std.specs.List.{list_any, list_all}
use Rattle.std.specs.Str.{bytes_eq}
use Rattle.amm_names.specs.Names.{Name}
use Rattle.amm_names.specs.declared.holder.Holder.{Holder}
use Rattle.amm_names.specs.declared.holder.Holder.TheVariants as holder
use Rattle.amm_names.specs.declared.holder.Asset.{Asset}
use Rattle.amm_names.specs.declared.holder.Asset.TheVariants as asset
use Rattle.amm_model.specs.declared.problem.Part.{Part}
use Rattle.amm_model.specs.declared.problem.ProblemPool.{ProblemPool}
use Rattle.amm_model.specs.declared.route.OpenQuote.{OpenQuote}
use Rattle.amm_model.specs.declared.fault.Refusal.{Refusal}
use Rattle.amm_model.specs.declared.fault.Refusal.TheVariants as code
use Rattle.amm_model.specs.declared.reply.Answer.{Answer}
use Rattle.amm_model.specs.declared.reply.Answer.TheVariants as answers
use Rattle.amm_model.specs.Outcome.{◌>>=◌, Made, refuse_if, Outcome, ledger_only}
use Rattle.amm_model.specs.Ledger.{Ledger, balance, is_listed}
use Rattle.amm_model.specs.Market.{IsOpenProblemIn}
use Rattle.amm_model.specs.Legs.{leg_pool}
use Rattle.amm_model.specs.Routing.{OpenView}
use Rattle.amm_model.specs.Settlement.{perform_legs}
use Rattle.amm_model.specs.Baskets.{HasNoBasket, IsBasketAnswer, IsBasketValue}

-- what a user has of the token of a part
abbrev pub held_of_part : Ledger → (actor : Name) → Part → ℕ
held_of_part ledger actor part = balance ledger (asset.Token part.token) (holder.User actor)

-- A sale that may be tried: it is in time, of listed tokens none of which is the one to get, of
-- some amount each, which the user has.
abbrev pub may_sell : Ledger → (actor : Name) → List Part → (t : Name) → (deadline : ℕ) → Result (Unit {0}) Refusal
may_sell ledger actor parts t deadline = do
  _ ← refuse_if (nat_lt deadline ledger.time) code.Expired
  _ ← refuse_if (list_any (λ (part : Part). bytes_eq part.token t) parts) code.Identical
  _ ← refuse_if (not (list_all (λ (part : Part). is_listed ledger.tokens part.token) parts)) code.UnknownToken
  _ ← refuse_if (not (is_listed ledger.tokens t)) code.UnknownToken
  _ ← refuse_if (list_any (λ (part : Part). part.amount == 0) parts) code.ZeroAmount
  refuse_if (list_any (λ (part : Part). nat_lt (held_of_part ledger actor part) part.amount) parts) code.Funds

-- A quote that answers the basket in the ledger delivers the minimum, and its legs are performed.
pub record IsSale (ledger : Ledger) (actor : Name) (parts : List Part) (t : Name) (min : ℕ) (made : Made Answer) : Type 0 where
  pub quote : OpenQuote
  pub problem : IsOpenProblemIn ledger parts t quote.problem
  pub some : HasNoBasket quote.problem → ⊥
  pub sale : IsBasketAnswer quote
  pub enough : min ≤ quote.delivered
  pub performed : perform_legs ledger actor quote.problem.pools quote.route.legs ≡ ledger_only made.ledger
  pub told : made.answer ≡ answers.Basket quote

-- No part can be brought to the token, which is told by NO_ROUTE; or one can, and everything that
-- has to be delivered at least is below the minimum.
pub record IsNoSale (ledger : Ledger) (parts : List Part) (t : Name) (min : ℕ) (why : Refusal) : Type 0 where
  pub problem : OpenView
  pub is : IsOpenProblemIn ledger parts t problem
  pub cause : ((why ≡ code.NoRoute) × HasNoBasket problem)
      ⊎ ((why ≡ code.InsufficientOutputAmount) × (HasNoBasket problem → ⊥) × ((value : ℕ) → IsBasketValue problem value → value < min))

-- What a search for a way to sell may end with.
abbrev pub Sells : Ledger → (actor : Name) → List Part → (t : Name) → (min : ℕ) → Outcome Answer → Type 0
Sells ledger actor parts t min (Ok made) = IsSale ledger actor parts t min made
Sells ledger actor parts t min (Err why) = IsNoSale ledger parts t min why

-- What a basket may come to.
abbrev pub SellsTo : Ledger → (actor : Name) → List Part → (t : Name) → (min deadline : ℕ) → Outcome Answer → Type 0
SellsTo ledger actor parts t min deadline outcome =
    MatchResult (may_sell ledger actor parts t deadline) (λ _. Sells ledger actor parts t min outcome) (λ why. outcome ≡ Err why)

-- The user has what the quote delivers, paid at most its parts, and lost nothing else; and nobody
-- but the pools of its legs had a part in it.
pub record IsSold (old new : Ledger) (actor : Name) (quote : OpenQuote) : Type 0 where
  pub gets : balance new (asset.Token quote.problem.t) (holder.User actor) ≡ balance old (asset.Token quote.problem.t) (holder.User actor) + quote.delivered
  pub pays : (part : Part) → Contains quote.problem.parts part → held_of_part old actor part ≤ held_of_part new actor part + part.amount
  pub keeps : (other : Asset) → All (λ (part : Part). other ≢ asset.Token part.token) quote.problem.parts → balance old other (holder.User actor) ≤ balance new other (holder.User actor)
  pub others : (any : Asset) (who : Holder) → who ≢ holder.User actor → All (λ (pool : ProblemPool). who ≢ holder.Pool pool.name) (map (leg_pool quote.problem.pools) quote.route.legs) →
      balance new any who ≡ balance old any who
