-- Legs whose pools are as they were quoted are performed one after the other.
use Rattle.std.proofs.Common.{◌≡◌, ◌≢◌, ◌≤◌, ◌<◌, ◌+◌, ℕ, suc, Bool, true, false, List, [], ◌∷◌, length, get_or, refl, sym, ◌∙◌, arith}
use Rattle.std.specs.Prelude.{AllPairs}
use Rattle.amm_names.specs.declared.holder.Holder.{Holder}
use Rattle.amm_names.specs.declared.holder.Holder.TheVariants as holders
use Rattle.amm_names.specs.declared.holder.Asset.{Asset}
use Rattle.amm_names.specs.declared.holder.Asset.TheVariants as assets
use Rattle.amm_model.specs.declared.problem.ProblemPool.{ProblemPool}
use Rattle.amm_model.specs.declared.route.Leg.{Leg}
use Rattle.amm_model.specs.Outcome.{ledger_only}
use Rattle.amm_model.specs.Ledger.{Ledger, balance}
use Rattle.amm_model.specs.Pools.{asset0, asset1}
use Rattle.amm_model.specs.Routing.{IsBefore, no_pool}
use Rattle.amm_names.specs.Names.{Name}
use Rattle.amm_model.specs.Legs.{Inventory, AreLegs, leg_pool, token_in, token_out, after_leg, after_legs}
use Rattle.amm_model.specs.Settlement.{perform_legs}
use Rattle.amm_settle.proofs.Trading.{IsAsKept, IsSoundPool, IsTraded}
use Rattle.amm_settle.proofs.OneLeg.{LegDone, leg_done, leg_tokens, pools_apart}

-- The pool of each leg is as it was quoted.
abbrev pub AreAsKept : Ledger → List ProblemPool → List Leg → Type 0
AreAsKept ledger pools [] = Unit {0}
AreAsKept ledger pools (leg ∷ legs) = IsAsKept ledger (leg_pool pools leg) × AreAsKept ledger pools legs

-- No leg is over the pool at this place.
abbrev pub AreOffPlace : ℕ → List Leg → Type 0
AreOffPlace place [] = Unit {0}
AreOffPlace place (leg ∷ legs) = (place ≢ leg.pool) × AreOffPlace place legs

-- The holder is the pool of no leg.
abbrev pub IsNoPoolOf : Holder → List ProblemPool → List Leg → Type 0
IsNoPoolOf who pools [] = Unit {0}
IsNoPoolOf who pools (leg ∷ legs) = (who ≢ holders.Pool (leg_pool pools leg).name) × IsNoPoolOf who pools legs

-- What is known of the pools of a problem.
pub record AreSoundPools (pools : List ProblemPool) : Type 0 where
  pub names : AllPairs (λ (a b : ProblemPool). IsBefore a.name b.name) pools
  pub each : (place : ℕ) → place < length pools → IsSoundPool (get_or pools place no_pool)

-- a pool that was used stands in no later leg
off_used : (pools : List ProblemPool) (used : List ℕ) (held : Inventory) (legs : List Leg) (k : ℕ) → k < length used → AreLegs pools used held legs → AreOffPlace (get_or used k 0) legs
off_used pools used held [] k below legal = tt
off_used pools used held (leg ∷ legs) k below legal =
    ((λ e. legal.0.unused k 0 below e), off_used pools (leg.pool ∷ used) (after_leg pools held leg) legs (suc k) (omega arith) legal.1)

other_pool : (a b : Name) → a ≢ b → (◌≢◌ {A = Holder} (holders.Pool a) (holders.Pool b))
other_pool a b apart e = apart (let same : a ≡ b = cc in same)

-- a pool under another name is as it was
still_kept : (pool other : ProblemPool) (actor from to : Name) (input output : ℕ) (old new : Ledger) → IsTraded pool actor from to input output old new → other.name ≢ pool.name → IsAsKept old other → IsAsKept new other
still_kept pool other actor from to input output old new traded apart kept = record {
  pair = kept.pair;
  there = traded.pairs other.name apart ∙ kept.there;
  free = kept.free;
  r0 = kept.r0;
  r1 = kept.r1;
  b0 = traded.others (asset0 other.name) (holders.Pool other.name) (λ e. cc) (other_pool other.name pool.name apart) ∙ kept.b0;
  b1 = traded.others (asset1 other.name) (holders.Pool other.name) (λ e. cc) (other_pool other.name pool.name apart) ∙ kept.b1;
}

all_still_kept : (pools : List ProblemPool) → AreSoundPools pools → (used : List ℕ) (held : Inventory) (legs : List Leg) (first : Leg) (actor from to : Name) (input output : ℕ) (old new : Ledger)
    → IsTraded (leg_pool pools first) actor from to input output old new → first.pool < length pools → AreLegs pools used held legs → AreOffPlace first.pool legs → AreAsKept old pools legs → AreAsKept new pools legs
all_still_kept pools sound used held [] first actor from to input output old new traded there legal off kept = tt
all_still_kept pools sound used held (leg ∷ legs) first actor from to input output old new traded there legal off kept = (
  still_kept (leg_pool pools first) (leg_pool pools leg) actor from to input output old new traded
      (pools_apart pools sound.names leg.pool first.pool legal.0.there there (λ e. off.0 (sym e))) kept.0,
  all_still_kept pools sound (leg.pool ∷ used) (after_leg pools held leg) legs first actor from to input output old new traded there legal.1 off.1 kept.1,
)

-- Legs were performed.
pub record LegsDone (old : Ledger) (actor : Name) (pools : List ProblemPool) (held : Inventory) (legs : List Leg) : Type 0 where
  pub ledger : Ledger
  pub is : perform_legs old actor pools legs ≡ ledger_only ledger
  pub tokens : (y : Name) → balance ledger (assets.Token y) (holders.User actor) + held y ≡ balance old (assets.Token y) (holders.User actor) + after_legs pools held legs y
  pub shares : (pool : Name) → balance ledger (assets.Share pool) (holders.User actor) ≡ balance old (assets.Share pool) (holders.User actor)
  pub others : (any : Asset) (who : Holder) → who ≢ holders.User actor → IsNoPoolOf who pools legs → balance ledger any who ≡ balance old any who

tokens_of_leg_apart : (pools : List ProblemPool) (leg : Leg) → IsSoundPool (leg_pool pools leg) → token_in pools leg ≢ token_out pools leg
tokens_of_leg_apart pools leg sound = by_side leg.pool leg.zero_in sound
  where
    by_side : (place : ℕ) (zero_in : Bool) → (let l : Leg = record { pool = place; zero_in = zero_in; input = leg.input; output = leg.output } in
        IsSoundPool (leg_pool pools l) → token_in pools l ≢ token_out pools l)
    by_side place true sound = sound.apart
    by_side place false sound = λ e. sound.apart (sym e)

pub legs_done : (pools : List ProblemPool) → AreSoundPools pools → (legs : List Leg) (used : List ℕ) (held : Inventory) (actor : Name) (old : Ledger) → AreLegs pools used held legs → AreAsKept old pools legs
    → ((y : Name) → held y ≤ balance old (assets.Token y) (holders.User actor)) → LegsDone old actor pools held legs
unfolding perform_legs
legs_done pools sound [] used held actor old legal kept funds = record { ledger = old; is = refl; tokens = λ y. refl; shares = λ pool. refl; others = λ any who user none. refl }
legs_done pools sound (leg ∷ legs) used held actor old legal kept funds =
    let pool : IsSoundPool (leg_pool pools leg) = sound.each leg.pool legal.0.there in
    let first : LegDone old actor pools leg = leg_done old actor pools used held leg pool kept.0 legal.0 (omega (arith, legal.0.within, funds (token_in pools leg))) in
    let moves = leg_tokens pools held leg actor old first.ledger (tokens_of_leg_apart pools leg pool) legal.0.within first.traded in
    let rest : LegsDone first.ledger actor pools (after_leg pools held leg) legs =
    legs_done pools sound legs (leg.pool ∷ used) (after_leg pools held leg) actor first.ledger legal.1
    (all_still_kept pools sound (leg.pool ∷ used) (after_leg pools held leg) legs leg actor _ _ _ _ old first.ledger first.traded legal.0.there legal.1
    (off_used pools (leg.pool ∷ used) (after_leg pools held leg) legs 0 (omega arith) legal.1) kept.1)
    (λ y. omega (arith, moves y, funds y)) in
    record {
      ledger = rest.ledger;
      is = rw (first.is) rest.is;
      tokens = λ y. omega (arith, moves y, rest.tokens y);
      shares = λ name. rest.shares name ∙ first.traded.own (assets.Share name) (λ e. cc) (λ e. cc);
      others = λ any who user none. rest.others any who user none.1 ∙ first.traded.others any who user none.0;
    }
