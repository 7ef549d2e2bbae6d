-- A leg-by-leg route is, leg for trade, a route that delivers the same.
use Rattle.std.proofs.Common.{◌≡◌, ◌≢◌, ℕ, ◌+◌, ◌-◌, ◌<◌, ◌≤◌, Bool, true, false, cond, nat_eq, List, [], ◌∷◌, length, map, arith, suc, subst, sym, refl, get_or, ◌∙◌}
use Rattle.std.specs.Prelude.{AllPairs, All, Contains}
use Rattle.std.proofs.Math.ListN.{length-map}
use Rattle.std.proofs.lemmas.List.{get_or-map}
use Rattle.std.proofs.lemmas.Bool.Decides.{nat_tests}
use Rattle.std.proofs.lemmas.Map.Keys.{IsDistinct-from_apart}
use Rattle.std.proofs.lemmas.Bool.{eqb-true}
use Rattle.std.proofs.lemmas.Map.Views.{Contains-from_any}
use Rattle.std.proofs.lemmas.Map.Steps.{length-le_from_distinct_below}
use Rattle.std.proofs.lemmas.List.Kept.{AllPairs-cons}
use Rattle.std.specs.List.{AllByRecursion}
use Rattle.std.specs.Str.{bytes_eq}
use Rattle.std.proofs.lemmas.Slice.Eq.{bytes_eq-Decides}
use Rattle.std.proofs.lemmas.List.Elements.{All-from_recursion}
use Rattle.std.proofs.lemmas.List.Sums.{sum_by-cons}
use Rattle.amm_model.specs.declared.problem.ProblemPool.{ProblemPool}
use Rattle.amm_model.specs.declared.route.Leg.{Leg}
use Rattle.amm_model.specs.Swap.{amount_out_of}
use Rattle.amm_model.specs.Routing.{OpenView, PoolTrade, IsOpenProblem, HasReserves, amount_given, IsTrade, IsRoute, pool_of, fee_of, amount_put_in, amount_taken_out, delivered_by, amount_in_token, no_pool}
use Rattle.amm_names.specs.Names.{Name}
use Rattle.amm_model.specs.Legs.{Inventory, IsLeg, AreLegs, after_leg, after_legs, trade_of, token_in, leg_pool, reserve_in, reserve_out}
use Rattle.std.proofs.Math.Nat.{mul-zero, sub-zero, add-zero}
use Rattle.amm_model.proofs.Swap.{fee_range, admits_turned, greatest_output, amount_out-lt}
use Rattle.amm_model.proofs.Problems.{fee_of-is, none_given}

-- what is held of a token, where x of it may go in and w of it may come out
balance_of : (h x w : ℕ) (b c : Bool) → (b ≡ true → x ≤ h) → h + (cond b 0 0 + cond c w 0) ≡ ((h - cond b x 0) + cond c w 0) + (cond b x 0 + cond c 0 0)
balance_of h x w true true within = let l = within refl in omega arith
balance_of h x w true false within = let l = within refl in omega arith
balance_of h x w false true within = omega arith
balance_of h x w false false within = omega arith

balance_turned : (h x w : ℕ) (b c : Bool) → (c ≡ true → x ≤ h) → h + (cond b w 0 + cond c 0 0) ≡ ((h - cond c x 0) + cond b w 0) + (cond b 0 0 + cond c x 0)
balance_turned h x w true true within = let l = within refl in omega arith
balance_turned h x w true false within = omega arith
balance_turned h x w false true within = let l = within refl in omega arith
balance_turned h x w false false within = omega arith

-- one leg: what is held after it, and what its trade puts in, is what was held and what its trade
-- takes out
leg_balance : (pools : List ProblemPool) (held : Inventory) (leg : Leg) → leg.input ≤ held (token_in pools leg) → (y : Name) →
    held y + amount_in_token y (pool_of pools (trade_of leg)) (trade_of leg).out0 (trade_of leg).out1
    ≡ after_leg pools held leg y + amount_in_token y (pool_of pools (trade_of leg)) (trade_of leg).in0 (trade_of leg).in1
leg_balance pools held leg within y = by_side leg.pool leg.zero_in leg.input leg.output within
  where
    by_side : (place : ℕ) (zero_in : Bool) (input output : ℕ) → (let l : Leg = record { pool = place; zero_in = zero_in; input = input; output = output } in
        input ≤ held (token_in pools l) →
        held y + amount_in_token y (pool_of pools (trade_of l)) (trade_of l).out0 (trade_of l).out1
        ≡ after_leg pools held l y + amount_in_token y (pool_of pools (trade_of l)) (trade_of l).in0 (trade_of l).in1)
    by_side place true input output enough =
        balance_of (held y) input output (bytes_eq y _) (bytes_eq y _) (λ e. subst (λ (t : Name). input ≤ held t) (sym ((bytes_eq-Decides y _).0 e)) enough)
    by_side place false input output enough =
        balance_turned (held y) input output (bytes_eq y _) (bytes_eq y _) (λ e. subst (λ (t : Name). input ≤ held t) (sym ((bytes_eq-Decides y _).0 e)) enough)

-- over all legs
legs_balance : (pools : List ProblemPool) (used : List ℕ) (held : Inventory) (legs : List Leg) → AreLegs pools used held legs → (y : Name) →
    held y + amount_taken_out pools (map trade_of legs) y ≡ after_legs pools held legs y + amount_put_in pools (map trade_of legs) y
legs_balance pools used held [] legal y = refl
legs_balance pools used held (leg ∷ legs) legal y =
    let here = leg_balance pools held leg legal.0.within y in
    let rest = legs_balance pools (leg.pool ∷ used) (after_leg pools held leg) legs legal.1 y in
    let outs = sum_by-cons (λ (t : PoolTrade). amount_in_token y (pool_of pools t) t.out0 t.out1) (trade_of leg) (map trade_of legs) in
    let ins = sum_by-cons (λ (t : PoolTrade). amount_in_token y (pool_of pools t) t.in0 t.in1) (trade_of leg) (map trade_of legs) in
    omega arith

-- a leg's trade is within its pool's reserves and its rule
leg_is_trade : (pools : List ProblemPool) (used : List ℕ) (held : Inventory) (leg : Leg) →
    All HasReserves pools →
    IsLeg pools used held leg → IsTrade pools (trade_of leg)
leg_is_trade pools used held leg reserves legal = by_side leg.pool leg.zero_in leg.input leg.output legal.there legal.pays
  where
    by_side : (place : ℕ) (zero_in : Bool) (input output : ℕ) → (let l : Leg = record { pool = place; zero_in = zero_in; input = input; output = output } in
        place < length pools → output ≡ amount_out_of (fee_of (leg_pool pools l)) input (reserve_in pools l) (reserve_out pools l) → IsTrade pools (trade_of l))
    by_side place true input output there pays =
        let r = reserves place no_pool there in
        record {
          there = there;
          within0 = r.0;
          within1 = rw pays (amount_out-lt (fee_of (get_or pools place no_pool)) input (get_or pools place no_pool).r0 (get_or pools place no_pool).r1 r.0 r.2);
          admitted = rw pays (simp (mul-zero, sub-zero, add-zero) (simp (mul-zero, sub-zero) at (greatest_output (fee_of (get_or pools place no_pool)) input (get_or pools place no_pool).r0 (get_or pools place no_pool).r1 (omega (arith, fee_range (fee_of (get_or pools place no_pool)) (fee_of-is (get_or pools place no_pool)))) r.0 r.2).0));
        }
    by_side place false input output there pays =
        let r = reserves place no_pool there in
        record {
          there = there;
          within0 = rw pays (amount_out-lt (fee_of (get_or pools place no_pool)) input (get_or pools place no_pool).r1 (get_or pools place no_pool).r0 r.2 r.0);
          within1 = r.2;
          admitted = rw pays (simp (mul-zero, sub-zero, add-zero) (simp (mul-zero, sub-zero) at (admits_turned _ _ _ _ _ _ _ (greatest_output (fee_of (get_or pools place no_pool)) input (get_or pools place no_pool).r1 (get_or pools place no_pool).r0 (omega (arith, fee_range (fee_of (get_or pools place no_pool)) (fee_of-is (get_or pools place no_pool)))) r.2 r.0).0)));
        }

legs_are_trades : (pools : List ProblemPool) (used : List ℕ) (held : Inventory) (legs : List Leg) →
    All HasReserves pools →
    AreLegs pools used held legs → AllByRecursion (IsTrade pools) (map trade_of legs)
legs_are_trades pools used held [] reserves legal = tt
legs_are_trades pools used held (leg ∷ legs) reserves legal =
    (leg_is_trade pools used held leg reserves legal.0, legs_are_trades pools (leg.pool ∷ used) (after_leg pools held leg) legs reserves legal.1)

place_of_trade : (leg : Leg) → (trade_of leg).place ≡ leg.pool
place_of_trade leg = by_side leg.pool leg.zero_in leg.input leg.output
  where
    by_side : (place : ℕ) (zero_in : Bool) (input output : ℕ) → (trade_of (record { pool = place; zero_in = zero_in; input = input; output = output })).place ≡ place
    by_side place true input output = refl
    by_side place false input output = refl

-- a pool that was used stands in no later leg
apart_from_used : (pools : List ProblemPool) (used : List ℕ) (held : Inventory) (legs : List Leg) (k : ℕ) → k < length used → AreLegs pools used held legs →
    AllByRecursion (λ (t : PoolTrade). get_or used k 0 ≢ t.place) (map trade_of legs)
apart_from_used pools used held [] k below legal = tt
apart_from_used pools used held (leg ∷ legs) k below legal = (
  (λ e. legal.0.unused k 0 below (e ∙ place_of_trade leg)),
  apart_from_used pools (leg.pool ∷ used) (after_leg pools held leg) legs (suc k) (omega arith) legal.1,
)

legs_apart : (pools : List ProblemPool) (used : List ℕ) (held : Inventory) (legs : List Leg) → AreLegs pools used held legs →
    AllPairs (λ (a b : PoolTrade). a.place ≢ b.place) (map trade_of legs)
legs_apart pools used held [] legal = λ i j d ij below. absurd (omega arith)
legs_apart pools used held (leg ∷ legs) legal =
    AllPairs-cons (λ (a b : PoolTrade). a.place ≢ b.place) (trade_of leg) (map trade_of legs)
    (All-from_recursion (λ (t : PoolTrade). (trade_of leg).place ≢ t.place) (map trade_of legs) (subst (λ (n : ℕ). AllByRecursion (λ (t : PoolTrade). n ≢ t.place) (map trade_of legs)) (sym (place_of_trade leg))
    (apart_from_used pools (leg.pool ∷ used) (after_leg pools held leg) legs 0 (omega arith) legal.1)))
    (legs_apart pools (leg.pool ∷ used) (after_leg pools held leg) legs legal.1)

-- so there are no more legs than pools
pub legs_few : (problem : OpenView) (used : List ℕ) (held : Inventory) (legs : List Leg) → IsOpenProblem problem → AreLegs problem.pools used held legs → length legs ≤ 256
legs_few problem used held legs sound legal =
    let apart = legs_apart problem.pools used held legs legal in
    let places = map (λ (t : PoolTrade). t.place) (map trade_of legs) in
    let distinct = IsDistinct-from_apart nat_eq places (λ i j d ij below. differ _ _ (
    let within : j < length (map trade_of legs) = rw length-map at below in
    rw (get_or-map (λ (t : PoolTrade). t.place) (map trade_of legs) i no_trade d (omega arith), get_or-map (λ (t : PoolTrade). t.place) (map trade_of legs) j no_trade d within) (apart i j no_trade ij within))) in
    let few : length places ≤ length problem.pools = length-le_from_distinct_below places (length problem.pools) distinct (λ q has. within q (Contains-from_any (λ x y e. eqb-true x y e) q places has)) in
    let as_many : length places ≡ length (map trade_of legs) = length-map (map trade_of legs) (λ (t : PoolTrade). t.place) in
    let as_legs : length (map trade_of legs) ≡ length legs = length-map legs trade_of in
    omega (arith, sound.parts.few)
  where
    no_trade : PoolTrade
    no_trade = record { place = 0; in0 = 0; in1 = 0; out0 = 0; out1 = 0 }

    within : (q : ℕ) → Contains (map (λ (t : PoolTrade). t.place) (map trade_of legs)) q → q < length problem.pools
    within q (k, below, is) =
        let inside : k < length (map trade_of legs) = rw length-map at below in
        let trades = All-from_recursion (IsTrade problem.pools) (map trade_of legs) (legs_are_trades problem.pools used held legs sound.parts.reserves legal) in
        let e : get_or (map (λ (t : PoolTrade). t.place) (map trade_of legs)) k q ≡ (get_or (map trade_of legs) k no_trade).place = get_or-map (λ (t : PoolTrade). t.place) (map trade_of legs) k no_trade q inside in
        omega (arith, is, e, (trades k no_trade inside).there)

    differ : (a b : ℕ) → a ≢ b → nat_eq a b ≡ false
    differ a b apart = grind (arith, nat_tests)

-- a leg-by-leg route is a route, leg for trade
pub legs_are_route : (problem : OpenView) (legs : List Leg) → IsOpenProblem problem → AreLegs problem.pools [] (amount_given problem) legs → IsRoute problem (map trade_of legs)
legs_are_route problem legs sound legal =
    let balance = legs_balance problem.pools [] (amount_given problem) legs legal in
    record {
      once = legs_apart problem.pools [] (amount_given problem) legs legal;
      trades = All-from_recursion (IsTrade problem.pools) (map trade_of legs) (legs_are_trades problem.pools [] (amount_given problem) legs sound.parts.reserves legal);
      covers = λ token. (let b = balance token in omega arith);
    }

-- and it delivers the same
pub legs_deliver : (problem : OpenView) (legs : List Leg) → IsOpenProblem problem → AreLegs problem.pools [] (amount_given problem) legs →
    delivered_by problem (map trade_of legs) ≡ after_legs problem.pools (amount_given problem) legs problem.t
legs_deliver problem legs sound legal =
    let b = legs_balance problem.pools [] (amount_given problem) legs legal problem.t in
    let e = none_given problem.parts problem.t sound.parts.apart in
    omega arith
