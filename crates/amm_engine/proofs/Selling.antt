-- What a basket came to is what it may come to.
use Rattle.std.proofs.Common.{◌≡◌, ◌≢◌, ◌≤◌, ◌<◌, ◌==◌, ◌&&◌, ◌||◌, ℕ, not, nat_lt, Bool, true, false, List, [], ◌∷◌, length, map, get_or, Result, Ok, Err, inl, inr, refl, sym, ap, ◌∙◌, arith, subst}
use Rattle.std.specs.Prelude.{All, Contains}
use Rattle.std.specs.List.{list_all, list_any}
use Rattle.std.specs.Str.{bytes_eq}
use Rattle.std.proofs.lemmas.Bool.Decides.{nat_tests}
use Rattle.std.proofs.lemmas.List.{get_or_default}
use Rattle.std.proofs.lemmas.List.Elements.{All-nil, All-cons, All-head, All-tail}
use Rattle.amm_names.specs.Names.{Name}
use Rattle.amm_model.specs.declared.fault.Refusal.{Refusal}
use Rattle.amm_model.specs.declared.fault.Refusal.TheVariants as code
use Rattle.amm_model.specs.declared.problem.Part.{Part}
use Rattle.amm_model.specs.declared.problem.ProblemPool.{ProblemPool}
use Rattle.amm_model.specs.declared.reply.Answer.{Answer}
use Rattle.amm_model.specs.declared.reply.Answer.TheVariants as answers
use Rattle.amm_model.specs.declared.route.Leg.{Leg}
use Rattle.amm_model.specs.declared.route.OpenQuote.{OpenQuote}
use Rattle.amm_model.specs.Baskets.{HasNoBasket, IsBasketAnswer}
use Rattle.amm_model.specs.CommandView as command
use Rattle.amm_model.specs.Ledger.{Ledger, is_listed, pair_of}
use Rattle.amm_model.specs.Legs.{leg_pool}
use Rattle.amm_model.specs.Market.{IsOpenProblemIn, IsPoolIn}
use Rattle.amm_model.specs.Meaning.{MayComeTo, as_answer}
use Rattle.amm_model.specs.Outcome.{Made, Outcome, refuse_if}
use Rattle.amm_model.specs.Pools.{held0, held1}
use Rattle.amm_model.specs.Routing.{OpenView, no_pool}
use Rattle.amm_model.specs.Sales.{IsNoSale, Sells, held_of_part, may_sell}
use Rattle.amm_model.specs.Settlement.{all_as_kept, any_locked, is_as_kept, is_locked, perform_legs}
use Rattle.amm_model.specs.Sound.{IsAtRest}
use Rattle.amm_model.proofs.Guards.{not_refused}
use Rattle.amm_model.proofs.Names.{same_name_itself}
use Rattle.amm_settle.specs.Places.{AreThere}
use Rattle.amm_settle.specs.Sales.{HasParts, pools_of_quote}
use Rattle.amm_settle.proofs.LegsPay.{legs_pay, legs_there}

-- ---- what the tests tell

either : (a b : Bool) → (a || b) ≡ false → (a ≡ false) × (b ≡ false)
either true b e = cc
either false b e = (refl, e)

neither : (a b : Bool) → a ≡ false → b ≡ false → (a || b) ≡ false
neither true b e f = cc
neither false b e f = f

both_hold : (a b : Bool) → a ≡ true → b ≡ true → (a && b) ≡ true
both_hold true b e f = f
both_hold false b e f = cc

-- what no test finds holds of each
none_found : {X : Type 0} (test : X → Bool) (P : X → Type 0) → ((x : X) → test x ≡ false → P x) → (xs : List X) → list_any test xs ≡ false → All P xs
none_found test P each [] is = All-nil P
none_found test P each (x ∷ xs) is =
    let both = either (test x) (list_any test xs) is in
    All-cons P x xs (each x both.0) (none_found test P each xs both.1)

told_apart : (a b : Name) → bytes_eq a b ≡ false → a ≢ b
told_apart a b test e = let yes : bytes_eq a b ≡ true = ap (bytes_eq a) (sym e) ∙ same_name_itself a in cc

-- and what holds of each no test finds
nothing_found : {X : Type 0} (test : X → Bool) (P : X → Type 0) → ((x : X) → P x → test x ≡ false) → (xs : List X) → All P xs → list_any test xs ≡ false
nothing_found test P each [] all = refl
nothing_found test P each (x ∷ xs) all =
    neither (test x) (list_any test xs) (each x (All-head P x xs all)) (nothing_found test P each xs (All-tail P x xs all))

-- whoever has the parts lacks none
pub lacks_none : (ledger : Ledger) (actor : Name) (parts : List Part) → HasParts ledger actor parts
    → list_any (λ (part : Part). nat_lt (held_of_part ledger actor part) part.amount) parts ≡ false
lacks_none ledger actor parts has = nothing_found (λ (part : Part). nat_lt (held_of_part ledger actor part) part.amount) (λ (part : Part). part.amount ≤ held_of_part ledger actor part)
    (λ part enough. grind (arith, nat_tests)) parts has

-- parts that pass every test may be sold
pub sale_allowed : (ledger : Ledger) (actor : Name) (parts : List Part) (t : Name) (deadline : ℕ) → nat_lt deadline ledger.time ≡ false
    → list_any (λ (part : Part). bytes_eq part.token t) parts ≡ false → list_all (λ (part : Part). is_listed ledger.tokens part.token) parts ≡ true
    → is_listed ledger.tokens t ≡ true → list_any (λ (part : Part). part.amount == 0) parts ≡ false → HasParts ledger actor parts → Ok tt ≡ may_sell ledger actor parts t deadline
sale_allowed ledger actor parts t deadline timely apart listed target some has = rw (timely, apart, listed, target, some, lacks_none ledger actor parts has) refl

-- A user may sell the parts: none is of the token to get, there is some of each, and he has it.
pub record CanSell (ledger : Ledger) (actor : Name) (parts : List Part) (t : Name) : Type 0 where
  pub apart : All (λ (part : Part). part.token ≢ t) parts
  pub some : All (λ (part : Part). 1 ≤ part.amount) parts
  pub has : HasParts ledger actor parts

pub can_sell : (ledger : Ledger) (actor : Name) (parts : List Part) (t : Name) (deadline : ℕ) → may_sell ledger actor parts t deadline ≡ Ok tt → CanSell ledger actor parts t
can_sell ledger actor parts t deadline is =
    let timely = not_refused (nat_lt deadline ledger.time) code.Expired _ tt is in
    let apart = not_refused (list_any (λ (part : Part). bytes_eq part.token t) parts) code.Identical _ tt timely.1 in
    let listed = not_refused (not (list_all (λ (part : Part). is_listed ledger.tokens part.token) parts)) code.UnknownToken _ tt apart.1 in
    let target = not_refused (not (is_listed ledger.tokens t)) code.UnknownToken _ tt listed.1 in
    let some = not_refused (list_any (λ (part : Part). part.amount == 0) parts) code.ZeroAmount _ tt target.1 in
    record {
      apart = none_found (λ (part : Part). bytes_eq part.token t) (λ (part : Part). part.token ≢ t) (λ part no. told_apart part.token t no) parts apart.0;
      some = none_found (λ (part : Part). part.amount == 0) (λ (part : Part). 1 ≤ part.amount) (λ part no. grind (arith, nat_tests)) parts some.0;
      has = none_found (λ (part : Part). nat_lt (held_of_part ledger actor part) part.amount) (λ (part : Part). part.amount ≤ held_of_part ledger actor part)
          (λ part no. grind (arith, nat_tests)) parts (let_by _ some.1);
    }
  where
    let_by : (b : Bool) → refuse_if b code.Funds ≡ Ok tt → b ≡ false
    let_by true e = cc
    let_by false e = refl

-- ---- the pools of legs, between lines

kept_here : (ledger : Ledger) (pool : ProblemPool) → (is : IsPoolIn ledger pool) →
    (is.pair.r0 == pool.r0 && is.pair.r1 == pool.r1 && held0 ledger pool.name == pool.b0 && held1 ledger pool.name == pool.b1) ≡ true
kept_here ledger pool is =
    let r0 : (is.pair.r0 == pool.r0) ≡ true = (let e = ap (λ (p : ProblemPool). p.r0) is.as_kept in grind (arith, nat_tests)) in
    let r1 : (is.pair.r1 == pool.r1) ≡ true = (let e = ap (λ (p : ProblemPool). p.r1) is.as_kept in grind (arith, nat_tests)) in
    let b0 : (held0 ledger pool.name == pool.b0) ≡ true = (let e = ap (λ (p : ProblemPool). p.b0) is.as_kept in grind (arith, nat_tests)) in
    let b1 : (held1 ledger pool.name == pool.b1) ≡ true = (let e = ap (λ (p : ProblemPool). p.b1) is.as_kept in grind (arith, nat_tests)) in
    both_hold _ _ (both_hold _ _ (both_hold _ _ r0 r1) b0) b1

-- None is locked, and each is as the problem has it.
pub record AreFree (ledger : Ledger) (pools : List ProblemPool) : Type 0 where
  pub here : All (λ (pool : ProblemPool). IsPoolIn ledger pool) pools
  pub each : All (λ (pool : ProblemPool). is_locked (pair_of ledger.pairs pool.name) ≡ false) pools
  pub free : any_locked ledger pools ≡ false
  pub kept : all_as_kept ledger pools ≡ true

pub are_free : (ledger : Ledger) (pools : List ProblemPool) → IsAtRest ledger → ((pool : ProblemPool) → Contains pools pool → IsPoolIn ledger pool) → (legs : List Leg) → AreThere pools legs
    → AreFree ledger (map (leg_pool pools) legs)
are_free ledger pools rest in_ledger [] there = record {
  here = All-nil (λ (pool : ProblemPool). IsPoolIn ledger pool);
  each = All-nil (λ (pool : ProblemPool). is_locked (pair_of ledger.pairs pool.name) ≡ false);
  free = refl;
  kept = refl;
}
are_free ledger pools rest in_ledger (leg ∷ legs) there =
    let pool : ProblemPool = leg_pool pools leg in
    let is : IsPoolIn ledger (leg_pool pools leg) = in_ledger (leg_pool pools leg) (leg.pool, there.0, sym (get_or_default pools leg.pool no_pool (leg_pool pools leg) there.0)) in
    let unlocked : is_locked (pair_of ledger.pairs (leg_pool pools leg).name) ≡ false = ap is_locked is.there ∙ rest.unlocked (leg_pool pools leg).name is.pair is.there in
    let as_kept : is_as_kept ledger (leg_pool pools leg) (pair_of ledger.pairs (leg_pool pools leg).name) ≡ true
    = ap (is_as_kept ledger (leg_pool pools leg)) is.there ∙ kept_here ledger (leg_pool pools leg) is in
    let later = are_free ledger pools rest in_ledger legs there.1 in
    record {
      here = All-cons (λ (p : ProblemPool). IsPoolIn ledger p) pool (map (leg_pool pools) legs) is later.here;
      each = All-cons (λ (p : ProblemPool). is_locked (pair_of ledger.pairs p.name) ≡ false) pool (map (leg_pool pools) legs) unlocked later.each;
      free = neither _ _ unlocked later.free;
      kept = both_hold _ _ as_kept later.kept;
    }

-- A quote for the parts can be performed for a user who may sell them.
pub sale_ready : (ledger : Ledger) (actor : Name) (parts : List Part) (t : Name) (deadline : ℕ) (quote : OpenQuote) → may_sell ledger actor parts t deadline ≡ Ok tt → IsAtRest ledger
    → IsOpenProblemIn ledger parts t quote.problem → IsBasketAnswer quote → AreFree ledger (pools_of_quote quote) × HasParts ledger actor quote.problem.parts
sale_ready ledger actor parts t deadline quote may rest problem answer = (
  are_free ledger quote.problem.pools rest (λ pool is. (problem.pools pool).0 is) quote.route.legs (legs_there quote.problem.pools _ _ quote.route.legs answer.delivers.0),
  subst (HasParts ledger actor) (sym problem.sound.sources) (can_sell ledger actor parts t deadline may).has,
)

-- ---- where it is not sold

pub not_routed : (ledger : Ledger) (parts : List Part) (t : Name) (min : ℕ) (problem : OpenView) → IsOpenProblemIn ledger parts t problem → HasNoBasket problem → IsNoSale ledger parts t min code.NoRoute
not_routed ledger parts t min problem is none = record { problem = problem; is = is; cause = inl (refl, none) }

pub too_little : (ledger : Ledger) (parts : List Part) (t : Name) (min : ℕ) (quote : OpenQuote) → IsOpenProblemIn ledger parts t quote.problem → (HasNoBasket quote.problem → ⊥) → IsBasketAnswer quote
    → quote.delivered < min → IsNoSale ledger parts t min code.InsufficientOutputAmount
too_little ledger parts t min quote is some answer less =
    record { problem = quote.problem; is = is; cause = inr (refl, some, λ value given. (let least = answer.values value given in omega arith)) }

-- ---- what it comes to

module _ (old : Ledger) (actor : Name) (parts : List Part) (t : Name) (min deadline : ℕ) where
  -- what the search ends with, where the parts may be sold
  sells : (outcome : Outcome Answer) → may_sell old actor parts t deadline ≡ Ok tt → Sells old actor parts t min outcome → MayComeTo old (command.basket actor parts t min deadline) outcome
  unfolding MayComeTo
  sells outcome may is = rw may is

  -- parts that may not be sold
  pub basket_refused : (why : Refusal) → may_sell old actor parts t deadline ≡ Err why → MayComeTo old (command.basket actor parts t min deadline) (Err why)
  unfolding MayComeTo
  basket_refused why is = rw is refl

  -- no quote that is enough
  pub basket_unsold : (why : Refusal) → may_sell old actor parts t deadline ≡ Ok tt → IsNoSale old parts t min why → MayComeTo old (command.basket actor parts t min deadline) (Err why)
  basket_unsold why may none = sells (Err why) may none

  -- a quote is performed
  pub basket_sold : (quote : OpenQuote) → may_sell old actor parts t deadline ≡ Ok tt → IsAtRest old → IsOpenProblemIn old parts t quote.problem → (HasNoBasket quote.problem → ⊥) → IsBasketAnswer quote
      → min ≤ quote.delivered → MayComeTo old (command.basket actor parts t min deadline) (as_answer (λ _. answers.Basket quote) (perform_legs old actor quote.problem.pools quote.route.legs))
  basket_sold quote may rest problem some answer enough =
      let ready = sale_ready old actor parts t deadline quote may rest problem answer in
      let done = legs_pay old actor quote answer.problem answer.delivers ready.0.free ready.0.kept ready.1 in
      let made : Made Answer = record { ledger = done.ledger; answer = answers.Basket quote } in
      rw (done.is) (sells (Ok made) may (record { quote = quote; problem = problem; some = some; sale = answer; enough = enough; performed = done.is; told = refl }))
