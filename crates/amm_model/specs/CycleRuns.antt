-- What a command to take a cycle may come to, and what its taker has then.
use Rattle.std.specs.Prelude.{ℕ, ◌≡◌, ◌≢◌, ◌+◌, not, nat_lt, All, List, [], ◌∷◌, map, Result, Ok, Err, MatchResult}
use Rattle.amm_names.specs.Names.{Name}
use Rattle.amm_names.specs.declared.holder.Holder.{Holder}
use Rattle.amm_names.specs.declared.holder.Holder.TheVariants as holder
use Rattle.amm_names.specs.declared.holder.Asset.{Asset}
use Rattle.amm_names.specs.declared.holder.Asset.TheVariants as asset
use Rattle.amm_model.specs.declared.pair.SwapReceipt.{SwapReceipt}
use Rattle.amm_model.specs.declared.problem.ProblemPool.{ProblemPool}
use Rattle.amm_model.specs.declared.route.Leg.{Leg}
use Rattle.amm_model.specs.declared.route.OpenQuote.{OpenQuote}
use Rattle.amm_model.specs.declared.fault.Refusal.{Refusal}
use Rattle.amm_model.specs.declared.fault.Refusal.TheVariants as code
use Rattle.amm_model.specs.declared.reply.Answer.{Answer}
use Rattle.amm_model.specs.declared.reply.Answer.TheVariants as answers
use Rattle.amm_model.specs.Outcome.{◌>>=◌, Made, refuse_if, Outcome}
use Rattle.amm_model.specs.CommandView.{Move}
use Rattle.amm_model.specs.Ledger.{Ledger, balance, is_listed}
use Rattle.amm_model.specs.Market.{IsOpenProblemIn}
use Rattle.amm_model.specs.Legs.{leg_pool}
use Rattle.amm_model.specs.Routing.{OpenView}
use Rattle.amm_model.specs.Cycles.{HasNoCycle, IsCycleAnswer, nested_loans}

-- What a step of the actor does.
abbrev pub StepMeaning : Type 0
StepMeaning = Ledger → (actor : Name) → Move → Outcome Answer

-- A cycle that may be tried: it is in time, from a listed token.
abbrev pub may_cycle : Ledger → (t : Name) → (deadline : ℕ) → Result (Unit {0}) Refusal
may_cycle ledger t deadline = do
  _ ← refuse_if (nat_lt deadline ledger.time) code.Expired
  refuse_if (not (is_listed ledger.tokens t)) code.UnknownToken

-- The legs are taken by loans inside one another, and leave the ledger.
pub record RunsNested (meaning : StepMeaning) (ledger : Ledger) (actor : Name) (pools : List ProblemPool) (legs : List Leg) (after : Ledger) : Type 0 where
  pub first : Leg
  pub later : List Leg
  pub are : legs ≡ first ∷ later
  pub receipt : SwapReceipt
  pub ran : meaning ledger actor (nested_loans pools first later) ≡ Ok (record { ledger = after; answer = answers.Flash receipt })

-- A quote of a cycle in the ledger, which is taken.
pub record IsCycleTaken (meaning : StepMeaning) (ledger : Ledger) (actor t : Name) (made : Made Answer) : Type 0 where
  pub quote : OpenQuote
  pub problem : IsOpenProblemIn ledger [] t quote.problem
  pub some : HasNoCycle quote.problem → ⊥
  pub cycle : IsCycleAnswer quote
  pub run : RunsNested meaning ledger actor quote.problem.pools quote.route.legs made.ledger
  pub told : made.answer ≡ answers.Cycle quote

-- No cycle brings anything in the ledger.
pub record HasNoCycleIn (ledger : Ledger) (t : Name) : Type 0 where
  pub problem : OpenView
  pub is : IsOpenProblemIn ledger [] t problem
  pub none : HasNoCycle problem

-- What a search for a cycle may end with: one that is taken, or NO_ROUTE.
abbrev pub Cycles : StepMeaning → Ledger → (actor t : Name) → Outcome Answer → Type 0
Cycles meaning ledger actor t (Ok made) = IsCycleTaken meaning ledger actor t made
Cycles meaning ledger actor t (Err why) = (why ≡ code.NoRoute) × HasNoCycleIn ledger t

-- What a command to take a cycle may come to.
abbrev pub CyclesTo : StepMeaning → Ledger → (actor t : Name) → (deadline : ℕ) → Outcome Answer → Type 0
CyclesTo meaning ledger actor t deadline outcome =
    MatchResult (may_cycle ledger t deadline) (λ _. Cycles meaning ledger actor t outcome) (λ why. outcome ≡ Err why)

-- The user has the profit, whatever he had before, and everything else as it was; and nobody but
-- the pools of the legs had a part in it.
pub record IsCycleGain (old new : Ledger) (actor : Name) (quote : OpenQuote) : Type 0 where
  pub gets : balance new (asset.Token quote.problem.t) (holder.User actor) ≡ balance old (asset.Token quote.problem.t) (holder.User actor) + quote.delivered
  pub keeps : (other : Asset) → other ≢ asset.Token quote.problem.t → balance new other (holder.User actor) ≡ balance old other (holder.User actor)
  pub others : (any : Asset) (who : Holder) → who ≢ holder.User actor → All (λ (pool : ProblemPool). who ≢ holder.Pool pool.name) (map (leg_pool quote.problem.pools) quote.route.legs) →
      balance new any who ≡ balance old any who
