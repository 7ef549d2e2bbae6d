-- The nested loans of a cycle are accepted and bring its gain, whatever the actor owns.
use Rattle.std.proofs.Common.{◌≡◌, ◌≢◌, ◌≤◌, ◌<◌, ◌+◌, ◌-◌, ℕ, Bool, true, false, cond, List, [], ◌∷◌, map, length, Ok, sym, ap, ◌∙◌, arith, subst}
use Rattle.std.specs.Prelude.{All, AllPairs}
use Rattle.std.specs.Str.{bytes_eq}
use Rattle.std.proofs.lemmas.List.Elements.{All-tail}
use Rattle.amm_names.specs.Names.{Name}
use Rattle.amm_names.specs.declared.holder.Holder.{Holder}
use Rattle.amm_names.specs.declared.holder.Holder.TheVariants as holders
use Rattle.amm_names.specs.declared.holder.Asset.{Asset}
use Rattle.amm_names.specs.declared.holder.Asset.TheVariants as assets
use Rattle.amm_model.specs.declared.problem.ProblemPool.{ProblemPool}
use Rattle.amm_model.specs.declared.route.Hop.{Hop}
use Rattle.amm_model.specs.declared.route.Leg.{Leg}
use Rattle.amm_model.specs.declared.route.OpenQuote.{OpenQuote}
use Rattle.amm_model.specs.declared.pair.SwapReceipt.{SwapReceipt}
use Rattle.amm_model.specs.Outcome.{Made}
use Rattle.amm_model.specs.Ledger.{Ledger, balance, is_listed, pair_of}
use Rattle.amm_model.specs.Legs.{leg_pool}
use Rattle.amm_model.specs.Market.{IsPoolIn}
use Rattle.amm_model.specs.CommandView.{Move}
use Rattle.amm_model.specs.CycleRuns.{IsCycleGain}
use Rattle.amm_model.specs.Cycles.{IsCycleTrade}
use Rattle.amm_model.specs.Meaning.{meaning}
use Rattle.amm_model.specs.Paths.{IsHop, Leads, hop_pool, hop_from, hop_gives, hop_places, gives, legs_along}
use Rattle.amm_model.specs.Routing.{no_pool, token0_of, token1_of}
use Rattle.amm_model.specs.Settlement.{is_locked}
use Rattle.amm_model.specs.Sound.{IsSound}
use Rattle.amm_model.proofs.Names.{names_apart, same_name_itself}
use Rattle.amm_settle.proofs.Trading.{IsAsKept}
use Rattle.amm_settle.proofs.AllLegs.{AreSoundPools}
use Rattle.amm_loans.specs.Loans.{AreLoansOf, AreReady}
use Rattle.amm_loans.proofs.OneLoan.{flash_made}
use Rattle.amm_loans.proofs.Chain.{AreKept, AreListed, ChainDone, HasRun, IsNoPool, chain_done}

-- The actor has so much more of t, and of all else what he had; and nobody but these pools had a
-- part in it.
pub record Gains (old new : Ledger) (actor : Name) (t : Name) (gain : ℕ) (pools : List ProblemPool) : Type 0 where
  pub gets : balance new (assets.Token t) (holders.User actor) ≡ balance old (assets.Token t) (holders.User actor) + gain
  pub keeps : (other : Asset) → other ≢ assets.Token t → balance new other (holders.User actor) ≡ balance old other (holders.User actor)
  pub others : (any : Asset) (who : Holder) → who ≢ holders.User actor → All (λ (pool : ProblemPool). who ≢ holders.Pool pool.name) pools → balance new any who ≡ balance old any who

-- The nested loans of legs were accepted, and brought their gain.
pub record LoansDone (old : Ledger) (actor : Name) (pools : List ProblemPool) (t : Name) (legs : List Leg) (gain : ℕ) : Type 0 where
  pub made : Made SwapReceipt
  pub is : (step : Move) → AreLoansOf pools legs step → meaning old actor step ≡ Ok (flash_made made.ledger made.answer)
  pub gains : Gains old made.ledger actor t gain (map (leg_pool pools) legs)

-- ---- the pools, hop by hop

as_kept : (ledger : Ledger) (pool : ProblemPool) → IsPoolIn ledger pool → is_locked (pair_of ledger.pairs pool.name) ≡ false → IsAsKept ledger pool
as_kept ledger pool is free = record {
  pair = is.pair;
  there = is.there;
  free = ap is_locked (sym is.there) ∙ free;
  r0 = sym (ap (λ (p : ProblemPool). p.r0) is.as_kept);
  r1 = sym (ap (λ (p : ProblemPool). p.r1) is.as_kept);
  b0 = sym (ap (λ (p : ProblemPool). p.b0) is.as_kept);
  b1 = sym (ap (λ (p : ProblemPool). p.b1) is.as_kept);
}

module _ (pools : List ProblemPool) where
  abbrev pools_along : List Hop → ℕ → List ProblemPool
  pools_along hops x = map (leg_pool pools) (legs_along pools hops x)

  hops_kept : (ledger : Ledger) (hops : List Hop) (x : ℕ) → All (λ (pool : ProblemPool). IsPoolIn ledger pool) (pools_along hops x)
      → All (λ (pool : ProblemPool). is_locked (pair_of ledger.pairs pool.name) ≡ false) (pools_along hops x) → AreKept ledger pools hops
  hops_kept ledger [] x kept free = tt
  hops_kept ledger (hop ∷ hops) x kept free = (
    as_kept ledger (hop_pool pools hop) (kept 0 no_pool (omega arith)) (free 0 no_pool (omega arith)),
    hops_kept ledger hops (hop_gives pools hop x)
        (All-tail (λ (pool : ProblemPool). IsPoolIn ledger pool) (hop_pool pools hop) (pools_along hops (hop_gives pools hop x)) kept)
        (All-tail (λ (pool : ProblemPool). is_locked (pair_of ledger.pairs pool.name) ≡ false) (hop_pool pools hop) (pools_along hops (hop_gives pools hop x)) free),
  )

  no_pool_along : (who : Holder) (hops : List Hop) (x : ℕ) → All (λ (pool : ProblemPool). who ≢ holders.Pool pool.name) (pools_along hops x) → IsNoPool who pools hops
  no_pool_along who [] x none = tt
  no_pool_along who (hop ∷ hops) x none = (
    none 0 no_pool (omega arith),
    no_pool_along who hops (hop_gives pools hop x) (All-tail (λ (pool : ProblemPool). who ≢ holders.Pool pool.name) (hop_pool pools hop) (pools_along hops (hop_gives pools hop x)) none),
  )

  -- the tokens of a pool are listed
  hops_listed : (ledger : Ledger) (hops : List Hop) → IsSound ledger → AreKept ledger pools hops → AreListed ledger.tokens pools hops
  hops_listed ledger [] sound kept = tt
  hops_listed ledger (hop ∷ hops) sound kept =
      let listed = (sound.pairs (hop_pool pools hop).name kept.0.pair kept.0.there).listed in
      (pick hop.zero_in (token0_of (hop_pool pools hop)) (token1_of (hop_pool pools hop)) listed.0 listed.1, hops_listed ledger hops sound kept.1)
    where
      pick : (b : Bool) (m n : Name) → is_listed ledger.tokens m ≡ true → is_listed ledger.tokens n ≡ true → is_listed ledger.tokens (cond b m n) ≡ true
      pick true m n first second = first
      pick false m n first second = second

-- ---- what the actor has then

gained : (pools : List ProblemPool) (hops : List Hop) (actor t : Name) (x y : ℕ) (old new : Ledger) → x < y → HasRun pools hops actor t t x y old new → Gains old new actor t (y - x) (map (leg_pool pools) (legs_along pools hops x))
gained pools hops actor t x y old new stands run = record {
  gets = (let same : bytes_eq t t ≡ true = same_name_itself t in
      let moved : balance new (assets.Token t) (holders.User actor) + x ≡ balance old (assets.Token t) (holders.User actor) + y =
      subst (λ (b : Bool). balance new (assets.Token t) (holders.User actor) + cond b x 0 ≡ balance old (assets.Token t) (holders.User actor) + cond b y 0) same (run.moved t) in
      omega arith);
  keeps = keeps;
  others = λ any who user none. run.others any who user (no_pool_along pools who hops x none);
} where
  keeps : (other : Asset) → other ≢ assets.Token t → balance new other (holders.User actor) ≡ balance old other (holders.User actor)
  keeps (assets.Token name) apart =
      let no : bytes_eq name t ≡ false = names_apart name t (λ e. apart (ap assets.Token e)) in
      let moved : balance new (assets.Token name) (holders.User actor) + 0 ≡ balance old (assets.Token name) (holders.User actor) + 0 =
      subst (λ (b : Bool). balance new (assets.Token name) (holders.User actor) + cond b x 0 ≡ balance old (assets.Token name) (holders.User actor) + cond b y 0) no (run.moved name) in
      omega arith
  keeps (assets.Share pool) apart = run.shares pool

module _ (pools : List ProblemPool) (sound : AreSoundPools pools) (actor t : Name) (old : Ledger) (sound_ledger : IsSound old) where
  chain_gains : (hops : List Hop) (x : ℕ) → 2 ≤ length hops → All (IsHop pools) hops → AllPairs (λ (a b : ℕ). a ≢ b) (hop_places hops) → Leads pools t hops t → x < gives pools hops x
      → AreReady old pools (legs_along pools hops x) → LoansDone old actor pools t (legs_along pools hops x) (gives pools hops x - x)
  chain_gains [] x long over different leads stands ready = absurd (omega arith)
  chain_gains (hop ∷ hops) x long over different leads stands ready =
      let kept = hops_kept pools old (hop ∷ hops) x ready.kept ready.free in
      let same : bytes_eq (hop_from pools hop) t ≡ true = ap (bytes_eq (hop_from pools hop)) (sym leads.0) ∙ same_name_itself (hop_from pools hop) in
      let paid : cond (bytes_eq (hop_from pools hop) t) (gives pools (hop ∷ hops) x) 0 ≡ gives pools (hop ∷ hops) x = ap (λ (b : Bool). cond b (gives pools (hop ∷ hops) x) 0) same in
      let done : ChainDone pools hop hops actor t x old =
      chain_done pools sound actor t hops hop x old over different leads.1 (omega arith) kept (hops_listed pools old (hop ∷ hops) sound_ledger kept) (omega arith) in
      record {
        made = done.made;
        is = λ step is. ap (meaning old actor) is ∙ done.is;
        gains = gained pools (hop ∷ hops) actor t x (gives pools (hop ∷ hops) x) old done.made.ledger stands
            (subst (λ (from : Name). HasRun pools (hop ∷ hops) actor from t x (gives pools (hop ∷ hops) x) old done.made.ledger) leads.0 done.run);
      }

  -- The nested loans of a cycle bring its gain.
  cycle_gains : (legs : List Leg) (gain : ℕ) → IsCycleTrade pools t legs gain → AreReady old pools legs → LoansDone old actor pools t legs gain
  cycle_gains legs gain cycle ready =
      let along = chain_gains cycle.hops cycle.x cycle.is_cycle.short.0 cycle.is_cycle.over cycle.is_cycle.different cycle.is_cycle.leads cycle.stands
      (subst (AreReady old pools) cycle.legs_of ready) in
      subst (λ (n : ℕ). LoansDone old actor pools t legs n) (sym cycle.gained)
      (subst (λ (ls : List Leg). LoansDone old actor pools t ls (gives pools cycle.hops cycle.x - cycle.x)) (sym cycle.legs_of) along)

-- The nested loans of the cycle of a quote were accepted, and brought its profit.
pub record QuoteDone (old : Ledger) (actor : Name) (quote : OpenQuote) : Type 0 where
  pub made : Made SwapReceipt
  pub is : (step : Move) → AreLoansOf quote.problem.pools quote.route.legs step → meaning old actor step ≡ Ok (flash_made made.ledger made.answer)
  pub gains : IsCycleGain old made.ledger actor quote

pub quote_gains : (old : Ledger) (actor : Name) (quote : OpenQuote) → IsSound old → AreSoundPools quote.problem.pools → IsCycleTrade quote.problem.pools quote.problem.t quote.route.legs quote.delivered
    → AreReady old quote.problem.pools quote.route.legs → QuoteDone old actor quote
quote_gains old actor quote sound_ledger sound cycle ready =
    let done : LoansDone old actor quote.problem.pools quote.problem.t quote.route.legs quote.delivered =
    cycle_gains quote.problem.pools sound actor quote.problem.t old sound_ledger quote.route.legs quote.delivered cycle ready in
    record { made = done.made; is = done.is; gains = record { gets = done.gains.gets; keeps = done.gains.keeps; others = done.gains.others } }
