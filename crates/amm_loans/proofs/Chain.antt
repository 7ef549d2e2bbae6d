-- Trades one after the other as loans within loans: each pool lends its output before it is paid,
-- and the last output pays for the first input.
use Rattle.std.proofs.Common.{◌≡◌, ◌≢◌, ◌≤◌, ◌<◌, ◌+◌, ℕ, suc, cond, true, List, [], ◌∷◌, length, Ok, inl, inr, refl, sym, ap, ◌∙◌, arith, subst}
use Rattle.std.specs.Prelude.{All, AllPairs}
use Rattle.std.specs.Str.{bytes_eq}
use Rattle.amm_names.specs.Names.{Name}
use Rattle.amm_names.specs.declared.holder.Holder.{Holder}
use Rattle.amm_names.specs.declared.holder.Holder.TheVariants as holders
use Rattle.amm_names.specs.declared.holder.Asset.{Asset}
use Rattle.amm_names.specs.declared.holder.Asset.TheVariants as assets
use Rattle.amm_model.specs.declared.problem.ProblemPool.{ProblemPool}
use Rattle.amm_model.specs.declared.route.Hop.{Hop}
use Rattle.amm_model.specs.declared.pair.SwapReceipt.{SwapReceipt}
use Rattle.amm_model.specs.Outcome.{Made}
use Rattle.amm_model.specs.Ledger.{Ledger, balance, is_listed, pair_of}
use Rattle.amm_model.specs.Pools.{asset0, asset1}
use Rattle.amm_model.specs.CommandView as view
use Rattle.amm_model.specs.CommandView.{Moves}
use Rattle.amm_model.specs.Cycles.{payment, nested_loans}
use Rattle.amm_model.specs.Meaning.{meaning, meaning_of_all}
use Rattle.amm_model.specs.Paths.{IsHop, Leads, hop_pool, hop_from, hop_to, hop_gives, hop_places, gives, leg_of_hop, legs_along}
use Rattle.amm_settle.proofs.Trading.{IsAsKept, IsSoundPool}
use Rattle.amm_settle.proofs.OneLeg.{pools_apart}
use Rattle.amm_settle.proofs.AllLegs.{AreSoundPools}
use Rattle.amm_loans.proofs.Lent.{LendDone}
use Rattle.amm_loans.proofs.Sides.{IsBorrowed}
use Rattle.amm_loans.proofs.OneLoan.{IsLeft, LoanDone, lent, borrowed, borrowed_tokens, flash_made, loan_done, paid_tokens}
use Rattle.amm_loans.proofs.OneHop.{HopSide, hop_side, some_in}

-- The pool of each hop is free and as in the problem.
abbrev pub AreKept : Ledger → List ProblemPool → List Hop → Type 0
AreKept ledger pools [] = Unit {0}
AreKept ledger pools (hop ∷ hops) = IsAsKept ledger (hop_pool pools hop) × AreKept ledger pools hops

-- The token that each hop takes is listed.
abbrev pub AreListed : List Name → List ProblemPool → List Hop → Type 0
AreListed tokens pools [] = Unit {0}
AreListed tokens pools (hop ∷ hops) = (is_listed tokens (hop_from pools hop) ≡ true) × AreListed tokens pools hops

-- The holder is the pool of no hop.
abbrev pub IsNoPool : Holder → List ProblemPool → List Hop → Type 0
IsNoPool who pools [] = Unit {0}
IsNoPool who pools (hop ∷ hops) = (who ≢ holders.Pool (hop_pool pools hop).name) × IsNoPool who pools hops

-- The actor has x less of the first token and y more of the last, and nothing else of his, of no
-- pool but those of the hops, changed.
pub record HasRun (pools : List ProblemPool) (hops : List Hop) (actor from to : Name) (x y : ℕ) (old new : Ledger) : Type 0 where
  pub moved : (name : Name) → balance new (assets.Token name) (holders.User actor) + cond (bytes_eq name from) x 0 ≡ balance old (assets.Token name) (holders.User actor) + cond (bytes_eq name to) y 0
  pub shares : (pool : Name) → balance new (assets.Share pool) (holders.User actor) ≡ balance old (assets.Share pool) (holders.User actor)
  pub others : (any : Asset) (who : Holder) → who ≢ holders.User actor → IsNoPool who pools hops → balance new any who ≡ balance old any who
  pub pairs : (name : Name) → IsNoPool (holders.Pool name) pools hops → pair_of new.pairs name ≡ pair_of old.pairs name
  pub tokens : new.tokens ≡ old.tokens

-- The loans were made and returned.
pub record ChainDone (pools : List ProblemPool) (hop : Hop) (hops : List Hop) (actor t : Name) (x : ℕ) (old : Ledger) : Type 0 where
  pub made : Made SwapReceipt
  pub is : meaning old actor (nested_loans pools (leg_of_hop pools hop x) (legs_along pools hops (hop_gives pools hop x))) ≡ Ok (flash_made made.ledger made.answer)
  pub run : HasRun pools (hop ∷ hops) actor (hop_from pools hop) t x (gives pools (hop ∷ hops) x) old made.ledger

other_pool : (a b : Name) → a ≢ b → (◌≢◌ {A = Holder} (holders.Pool a) (holders.Pool b))
other_pool a b apart e = apart (let same : a ≡ b = cc in same)

-- what is left of the places
later_places : (p : ℕ) (ps : List ℕ) → AllPairs (λ (a b : ℕ). a ≢ b) (p ∷ ps) → AllPairs (λ (a b : ℕ). a ≢ b) ps
later_places p ps different i j d ij below = different (suc i) (suc j) d (omega arith) (omega arith)

pub later_hops : (pools : List ProblemPool) (hop : Hop) (hops : List Hop) → All (IsHop pools) (hop ∷ hops) → All (IsHop pools) hops
later_hops pools hop hops over k d below = over (suc k) d (omega arith)

module _ (pools : List ProblemPool) (sound : AreSoundPools pools) (actor t : Name) where
  -- the pools of later hops have other names
  apart_later : (hop : Hop) (hops : List Hop) → hop.pool < length pools → All (IsHop pools) hops → All (λ (q : ℕ). hop.pool ≢ q) (hop_places hops) → IsNoPool (holders.Pool (hop_pool pools hop).name) pools hops
  apart_later hop [] there over apart = tt
  apart_later hop (next ∷ later) there over apart = (
    other_pool (hop_pool pools hop).name (hop_pool pools next).name (pools_apart pools sound.names hop.pool next.pool there (over 0 next (omega arith)).there (apart 0 0 (omega arith))),
    apart_later hop later there (later_hops pools next later over) (λ k d below. apart (suc k) d (omega arith)),
  )

  first_apart : (hop : Hop) (hops : List Hop) → AllPairs (λ (a b : ℕ). a ≢ b) (hop_places (hop ∷ hops)) → All (λ (q : ℕ). hop.pool ≢ q) (hop_places hops)
  first_apart hop hops different k d below = different 0 (suc k) d (omega arith) (omega arith)

  -- pools under other names are as they were while this one lends
  still_kept : (pool : ProblemPool) (hops : List Hop) (old new : Ledger) (borrows : (any : Asset) (who : Holder) → who ≢ holders.Pool pool.name → who ≢ holders.User actor → balance new any who ≡ balance old any who)
      → ((name : Name) → name ≢ pool.name → pair_of new.pairs name ≡ pair_of old.pairs name) → IsNoPool (holders.Pool pool.name) pools hops → AreKept old pools hops → AreKept new pools hops
  still_kept pool [] old new borrows pairs apart kept = tt
  still_kept pool (hop ∷ hops) old new borrows pairs apart kept =
      let other = (hop_pool pools hop).name in (
        record {
          pair = kept.0.pair;
          there = pairs other (λ e. apart.0 (ap holders.Pool (sym e))) ∙ kept.0.there;
          free = kept.0.free;
          r0 = kept.0.r0;
          r1 = kept.0.r1;
          b0 = borrows (asset0 other) (holders.Pool other) (λ e. apart.0 (sym e)) (λ e. cc) ∙ kept.0.b0;
          b1 = borrows (asset1 other) (holders.Pool other) (λ e. apart.0 (sym e)) (λ e. cc) ∙ kept.0.b1;
        },
        still_kept pool hops old new borrows pairs apart.1 kept.1,
      )

  module _ (hop : Hop) (hops : List Hop) (x : ℕ) (old : Ledger) (over : All (IsHop pools) (hop ∷ hops)) (different : AllPairs (λ (a b : ℕ). a ≢ b) (hop_places (hop ∷ hops)))
      (gives_some : 1 ≤ gives pools (hop ∷ hops) x) (kept : AreKept old pools (hop ∷ hops)) (listed : AreListed old.tokens pools (hop ∷ hops))
      (funds : x ≤ balance old (assets.Token (hop_from pools hop)) (holders.User actor) + cond (bytes_eq (hop_from pools hop) t) (gives pools (hop ∷ hops) x) 0) where
    abbrev pool : ProblemPool
    pool = hop_pool pools hop

    abbrev y : ℕ
    y = hop_gives pools hop x

    there : hop.pool < length pools
    there = (over 0 hop (omega arith)).there

    sound_here : IsSoundPool pool
    sound_here = sound.each hop.pool there

    side : HopSide pools actor hop x
    side = hop_side pools actor hop x (over 0 hop (omega arith)) sound_here (some_in pools (hop ∷ hops) x gives_some) (some_in pools hops y gives_some)

    abbrev lends : LendDone old pool.name kept.0.pair (cond hop.zero_in 0 y) (cond hop.zero_in y 0) actor
    lends = lent old pool actor (hop_from pools hop) (hop_to pools hop) x y _ _ side.b0 side.b1 side.side kept.0 sound_here listed.0

    abbrev within : Ledger
    within = lends.value.ledger

    borrows : IsBorrowed pool kept.0.pair actor (hop_to pools hop) y old within
    borrows = borrowed old pool actor (hop_from pools hop) (hop_to pools hop) x y _ _ side.b0 side.b1 side.side kept.0 sound_here listed.0

    apart : IsNoPool (holders.Pool pool.name) pools hops
    apart = apart_later hop hops there (later_hops pools hop hops over) (first_apart hop hops different)

    kept_within : AreKept within pools hops
    kept_within = still_kept pool hops old within (λ any who itself user. borrows.others any who (inr (itself, user))) borrows.pairs apart kept.1

    listed_within : AreListed within.tokens pools hops
    listed_within = subst (λ (ts : List Name). AreListed ts pools hops) (sym borrows.tokens) listed.1

    -- what was lent is there for the next hop
    funds_within : y ≤ balance within (assets.Token (hop_to pools hop)) (holders.User actor)
    funds_within = omega (arith, borrows.gives)

    module _ (ran : Ledger) (run : HasRun pools hops actor (hop_to pools hop) t y (gives pools hops y) within ran) where
      left : IsLeft pool.name within ran
      left = record { tokens = run.tokens; here = run.pairs pool.name apart; held = λ any. run.others any (holders.Pool pool.name) (λ e. cc) apart }

      -- the first token, after the later hops
      enough : x ≤ balance ran (assets.Token (hop_from pools hop)) (holders.User actor)
      enough = omega (arith, funds, run.moved (hop_from pools hop), borrowed_tokens pool kept.0.pair actor (hop_to pools hop) y old within borrows (hop_from pools hop))

      done : LoanDone old within ran pool.name actor (hop_from pools hop) x (cond hop.zero_in 0 y) (cond hop.zero_in y 0)
      done = loan_done old pool actor (hop_from pools hop) (hop_to pools hop) x y _ _ side.b0 side.b1 side.side kept.0 sound_here listed.0 ran left enough

      has_run : HasRun pools (hop ∷ hops) actor (hop_from pools hop) t x (gives pools (hop ∷ hops) x) old done.made.ledger
      has_run = record {
        moved = λ name. omega (
          arith,
          paid_tokens pool.name actor (hop_from pools hop) x ran done.made.ledger done.paid name,
          run.moved name,
          borrowed_tokens pool kept.0.pair actor (hop_to pools hop) y old within borrows name,
        );
        shares = λ share. done.paid.others (assets.Share share) (holders.User actor) (λ e. cc) (inl (λ e. cc)) ∙ run.shares share ∙ borrows.others (assets.Share share) (holders.User actor) (inl (λ e. cc));
        others = λ any who user none. done.paid.others any who none.0 (inr user) ∙ run.others any who user none.1 ∙ borrows.others any who (inr (none.0, user));
        pairs = λ name none. done.paid.pairs name (λ e. none.0 (ap holders.Pool e)) ∙ run.pairs name none.1 ∙ borrows.pairs name (λ e. none.0 (ap holders.Pool e));
        tokens = done.paid.tokens ∙ run.tokens ∙ borrows.tokens;
      }

  pub chain_done : (hops : List Hop) (hop : Hop) (x : ℕ) (old : Ledger) → All (IsHop pools) (hop ∷ hops) → AllPairs (λ (a b : ℕ). a ≢ b) (hop_places (hop ∷ hops)) → Leads pools (hop_to pools hop) hops t
      → 1 ≤ gives pools (hop ∷ hops) x → AreKept old pools (hop ∷ hops) → AreListed old.tokens pools (hop ∷ hops)
      → x ≤ balance old (assets.Token (hop_from pools hop)) (holders.User actor) + cond (bytes_eq (hop_from pools hop) t) (gives pools (hop ∷ hops) x) 0 → ChainDone pools hop hops actor t x old
  unfolding nested_loans meaning_of_all
  chain_done [] hop x old over different leads some kept listed funds =
      let ran : Ledger = within hop [] x old over different some kept listed funds in
      let run : HasRun pools [] actor (hop_to pools hop) t (hop_gives pools hop x) (hop_gives pools hop x) ran ran = record {
        moved = λ name. ap (λ (last : Name). balance ran (assets.Token name) (holders.User actor) + cond (bytes_eq name last) (hop_gives pools hop x) 0) leads;
        shares = λ share. refl;
        others = λ any who user none. refl;
        pairs = λ name none. refl;
        tokens = refl;
      } in
      let d = done hop [] x old over different some kept listed funds ran run in
      record { made = d.made; is = d.is (payment pools (leg_of_hop pools hop x)) refl; run = has_run hop [] x old over different some kept listed funds ran run }
  chain_done (next ∷ later) hop x old over different leads some kept listed funds =
      let y = hop_gives pools hop x in
      let lent = within hop (next ∷ later) x old over different some kept listed funds in
      let enough = funds_within hop (next ∷ later) x old over different some kept listed funds in
      let inner : ChainDone pools next later actor t y lent =
      chain_done later next y lent (later_hops pools hop (next ∷ later) over) (later_places hop.pool (hop_places (next ∷ later)) different) leads.1 some
      (kept_within hop (next ∷ later) x old over different some kept listed funds) (listed_within hop (next ∷ later) x old over different some kept listed funds)
      (let same : y ≤ balance lent (assets.Token (hop_from pools next)) (holders.User actor) = subst (λ (token : Name). y ≤ balance lent (assets.Token token) (holders.User actor)) (sym leads.0) enough in omega arith) in
      let run = subst (λ (token : Name). HasRun pools (next ∷ later) actor token t y (gives pools (next ∷ later) y) lent inner.made.ledger) leads.0 inner.run in
      let d = done hop (next ∷ later) x old over different some kept listed funds inner.made.ledger run in
      record {
        made = d.made;
        is = d.is (view.move (nested_loans pools (leg_of_hop pools next y) (legs_along pools later (hop_gives pools next y))) (payment pools (leg_of_hop pools hop x))) (rw (inner.is) refl);
        run = has_run hop (next ∷ later) x old over different some kept listed funds inner.made.ledger run;
      }
