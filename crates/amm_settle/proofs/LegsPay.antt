-- Legs of a quote whose pools are as its problem says pay what they deliver, and no leg is refused.
use Rattle.std.proofs.Common.{◌≡◌, ◌≢◌, ◌≤◌, ◌+◌, ◌==◌, ◌&&◌, ◌||◌, ℕ, zero, suc, Bool, true, false, cond, List, [], ◌∷◌, map, Option, Some, None, Result, Ok, Err, get_or, refl, sym, ap, ◌∙◌, arith, subst}
use Rattle.std.specs.Prelude.{All, AllPairs}
use Rattle.std.specs.Str.{bytes_eq}
use Rattle.std.proofs.lemmas.Bool.Decides.{nat_tests}
use Rattle.std.proofs.lemmas.Slice.Eq.{bytes_eq-Decides}
use Rattle.std.proofs.lemmas.List.Elements.{All-contains, All-tail}
use Rattle.amm_names.specs.Names.{Name}
use Rattle.amm_names.specs.declared.holder.Holder.{Holder}
use Rattle.amm_names.specs.declared.holder.Holder.TheVariants as holders
use Rattle.amm_names.specs.declared.holder.Asset.{Asset}
use Rattle.amm_names.specs.declared.holder.Asset.TheVariants as assets
use Rattle.amm_model.specs.declared.pair.PairRecord.{PairRecord}
use Rattle.amm_model.specs.declared.problem.Part.{Part}
use Rattle.amm_model.specs.declared.problem.ProblemPool.{ProblemPool}
use Rattle.amm_model.specs.declared.route.Leg.{Leg}
use Rattle.amm_model.specs.declared.route.OpenQuote.{OpenQuote}
use Rattle.amm_model.specs.declared.fault.Fault.{Fault}
use Rattle.amm_model.specs.declared.fault.Fault.TheVariants as faults
use Rattle.amm_model.specs.declared.fault.Refusal.{Refusal}
use Rattle.amm_model.specs.Outcome.{Made, Outcome, ledger_only}
use Rattle.amm_model.specs.Ledger.{Ledger, balance, pair_of}
use Rattle.amm_model.specs.Pools.{held0, held1}
use Rattle.amm_model.specs.Routing.{IsBefore, IsOpenProblem, OpenView, amount_given, given_by_parts, no_pool}
use Rattle.amm_model.specs.Legs.{Inventory, AreLegs, Delivers, leg_pool, after_leg}
use Rattle.amm_model.specs.Sales.{IsSold}
use Rattle.amm_model.specs.Settlement.{is_locked, is_as_kept, any_locked, all_as_kept, perform_legs}
use Rattle.amm_model.proofs.Guards.{same_answer}
use Rattle.amm_model.proofs.Names.{same_name_itself}
use Rattle.amm_model.proofs.Problems.{before-apart, fee_of-is, none_given, tokens_differ}
use Rattle.amm_state.specs.Tx.{TxView, Meets}
use Rattle.amm_settle.specs.Places.{AreThere}
use Rattle.amm_settle.specs.Sales.{HasParts, pools_of_quote}
use Rattle.amm_settle.proofs.Trading.{IsAsKept}
use Rattle.amm_settle.proofs.AllLegs.{AreAsKept, AreSoundPools, IsNoPoolOf, LegsDone, legs_done}

pub legs_there : (pools : List ProblemPool) (used : List ℕ) (held : Inventory) (legs : List Leg) → AreLegs pools used held legs → AreThere pools legs
legs_there pools used held [] legal = tt
legs_there pools used held (leg ∷ legs) legal = (legal.0.there, legs_there pools (leg.pool ∷ used) (after_leg pools held leg) legs legal.1)

-- ---- the pools, by the tests

either : (a b : Bool) → (a || b) ≡ false → (a ≡ false) × (b ≡ false)
either true b e = cc
either false b e = (refl, e)

both : (a b : Bool) → (a && b) ≡ true → (a ≡ true) × (b ≡ true)
both true b e = (refl, e)
both false b e = cc

kept_by : (ledger : Ledger) (pool : ProblemPool) (o : Option PairRecord) → pair_of ledger.pairs pool.name ≡ o → is_locked o ≡ false → is_as_kept ledger pool o ≡ true → IsAsKept ledger pool
kept_by ledger pool None there free kept = cc
kept_by ledger pool (Some pair) there free kept =
    let fourth = both (pair.r0 == pool.r0 && pair.r1 == pool.r1 && held0 ledger pool.name == pool.b0) (held1 ledger pool.name == pool.b1) kept in
    let third = both (pair.r0 == pool.r0 && pair.r1 == pool.r1) (held0 ledger pool.name == pool.b0) fourth.0 in
    let second = both (pair.r0 == pool.r0) (pair.r1 == pool.r1) third.0 in
    record {
      pair = pair;
      there = there;
      free = free;
      r0 = grind (arith, nat_tests, second.0);
      r1 = grind (arith, nat_tests, second.1);
      b0 = grind (arith, nat_tests, third.1);
      b1 = grind (arith, nat_tests, fourth.1);
    }

all_kept : (ledger : Ledger) (pools : List ProblemPool) (legs : List Leg) → any_locked ledger (map (leg_pool pools) legs) ≡ false → all_as_kept ledger (map (leg_pool pools) legs) ≡ true → AreAsKept ledger pools legs
all_kept ledger pools [] free kept = tt
all_kept ledger pools (leg ∷ legs) free kept =
    let f = either (is_locked (pair_of ledger.pairs (leg_pool pools leg).name)) (any_locked ledger (map (leg_pool pools) legs)) free in
    let k = both (is_as_kept ledger (leg_pool pools leg) (pair_of ledger.pairs (leg_pool pools leg).name)) (all_as_kept ledger (map (leg_pool pools) legs)) kept in
    (kept_by ledger (leg_pool pools leg) _ refl f.0 k.0, all_kept ledger pools legs f.1 k.1)

-- the pools of a problem
sound_pools : (problem : OpenView) → IsOpenProblem problem → AreSoundPools problem.pools
sound_pools problem sound = record {
  names = sound.parts.names;
  each = λ place below. record {
    apart = tokens_differ problem.pools sound.spelled.each place no_pool below;
    fee = fee_of-is (get_or problem.pools place no_pool);
    reserves = sound.parts.reserves place no_pool below;
    balances = sound.parts.balances place no_pool below;
  };
}

no_pool_of : (who : Holder) (pools : List ProblemPool) (legs : List Leg) → All (λ (pool : ProblemPool). who ≢ holders.Pool pool.name) (map (leg_pool pools) legs) → IsNoPoolOf who pools legs
no_pool_of who pools [] none = tt
no_pool_of who pools (leg ∷ legs) none =
    (none 0 no_pool (omega arith), no_pool_of who pools legs (All-tail (λ (pool : ProblemPool). who ≢ holders.Pool pool.name) (leg_pool pools leg) (map (leg_pool pools) legs) none))

-- ---- what the parts give

-- of each part's token its amount, since no two parts are of one token
given_of_each : (parts : List Part) → AllPairs (λ (a b : Part). IsBefore a.token b.token) parts → All (λ (part : Part). given_by_parts parts part.token ≡ part.amount) parts
given_of_each [] rising k d below = absurd (omega arith)
given_of_each (part ∷ parts) rising zero d below = let same : bytes_eq part.token part.token ≡ true = same_name_itself part.token in rw same refl
given_of_each (part ∷ parts) rising (suc k) d below =
    pick (get_or parts k d) (bytes_eq (get_or parts k d).token part.token) (bytes_eq-Decides (get_or parts k d).token part.token).0
    (before-apart part.token (get_or parts k d).token (rising 0 (suc k) d (omega arith) below))
    (given_of_each parts (λ i j o less within. rising (suc i) (suc j) o (omega arith) (omega arith)) k d (omega arith))
  where
    pick : (later : Part) (b : Bool) → (b ≡ true → later.token ≡ part.token) → part.token ≢ later.token → given_by_parts parts later.token ≡ later.amount → cond b part.amount (given_by_parts parts later.token) ≡ later.amount
    pick later true says apart rest = absurd (apart (sym (says refl)))
    pick later false says apart rest = rest

-- of no token more than the user has, who has every part
given_funded : (parts : List Part) (have : Name → ℕ) → All (λ (part : Part). part.amount ≤ have part.token) parts → (y : Name) → given_by_parts parts y ≤ have y
given_funded [] have funds y = omega arith
given_funded (part ∷ parts) have funds y =
    pick (bytes_eq y part.token) (bytes_eq-Decides y part.token).0 (given_funded parts have (All-tail (λ (part : Part). part.amount ≤ have part.token) part parts funds) y)
  where
    pick : (b : Bool) → (b ≡ true → y ≡ part.token) → given_by_parts parts y ≤ have y → cond b part.amount (given_by_parts parts y) ≤ have y
    pick true says rest = subst (λ (t : Name). part.amount ≤ have t) (sym (says refl)) (funds 0 part (omega arith))
    pick false says rest = rest

-- ---- the codes

-- nothing is both accepted and refused
pub not_both : {A : Type 0} (x : A) (why : Refusal) → (◌≡◌ {A = Result A Refusal} (Ok x) (Err why)) → ⊥
not_both x why e = cc

-- a call that met its definition was refused as the definition is
pub refused_so : {A : Type 0} (old new : TxView) (answer : Result A Fault) (outcome : Outcome A) → Meets old new answer outcome → (why : Refusal) → answer ≡ Err (faults.Refused why) → outcome ≡ Err why
refused_so old new (Ok x) outcome met why is = cc
refused_so old new (Err (faults.Refused other)) outcome met why is = met.gives ∙ ap Err (let e : other ≡ why = cc in e)
refused_so old new (Err faults.Memory) outcome met why is = cc

-- ---- the payment

-- The legs of a quote were performed and paid.
pub record SaleDone (old : Ledger) (actor : Name) (quote : OpenQuote) : Type 0 where
  pub ledger : Ledger
  pub is : perform_legs old actor quote.problem.pools quote.route.legs ≡ ledger_only ledger
  pub sold : IsSold old ledger actor quote

module _ (old : Ledger) (actor : Name) (quote : OpenQuote) (sound : IsOpenProblem quote.problem) (delivers : Delivers quote.problem quote.route.legs quote.delivered)
    (free : any_locked old (pools_of_quote quote) ≡ false) (kept : all_as_kept old (pools_of_quote quote) ≡ true) (funds : HasParts old actor quote.problem.parts) where
  abbrev problem : OpenView
  problem = quote.problem

  abbrev legs : List Leg
  legs = quote.route.legs

  abbrev have : Ledger → Name → ℕ
  have ledger y = balance ledger (assets.Token y) (holders.User actor)

  pub legs_pay : SaleDone old actor quote
  legs_pay =
      let done = legs_done problem.pools (sound_pools problem sound) legs [] (amount_given problem) actor old delivers.0
      (all_kept old problem.pools legs free kept) (given_funded problem.parts (have old) funds) in
      record {
        ledger = done.ledger;
        is = done.is;
        sold = record {
          gets = omega (arith, done.tokens problem.t, none_given problem.parts problem.t sound.parts.apart, delivers.1);
          pays = λ part is_part. All-contains (λ (p : Part). have old p.token ≤ have done.ledger p.token + p.amount) problem.parts part (pays done) is_part;
          keeps = keeps done;
          others = λ any who user none. done.others any who user (no_pool_of who problem.pools legs none);
        };
      }
    where
      pays : (done : LegsDone old actor problem.pools (amount_given problem) legs) → All (λ (p : Part). have old p.token ≤ have done.ledger p.token + p.amount) problem.parts
      pays done k d below = omega (arith, done.tokens (get_or problem.parts k d).token, given_of_each problem.parts sound.parts.rising k d below)

      keeps : (done : LegsDone old actor problem.pools (amount_given problem) legs) → (other : Asset) → All (λ (part : Part). other ≢ assets.Token part.token) problem.parts
          → balance old other (holders.User actor) ≤ balance done.ledger other (holders.User actor)
      keeps done (assets.Token y) apart =
          omega (arith, done.tokens y, none_given problem.parts y (λ k d below e. apart k d below (ap assets.Token (sym e))))
      keeps done (assets.Share pool) apart = omega (arith, done.shares pool)

  -- the legs are not refused, and whatever was made of them is this payment
  pub legs_not_refused : (why : Refusal) → perform_legs old actor problem.pools legs ≡ Err why → ⊥
  legs_not_refused why is = not_both _ why (sym legs_pay.is ∙ is)

  pub legs_sold : (made : Made (Unit {0})) → perform_legs old actor problem.pools legs ≡ Ok made → IsSold old made.ledger actor quote
  legs_sold made is =
      let e = same_answer (record { ledger = legs_pay.ledger; answer = tt }) made (sym legs_pay.is ∙ is) in
      subst (λ (l : Ledger). IsSold old l actor quote) (ap (λ (m : Made (Unit {0})). m.ledger) e) legs_pay.sold
