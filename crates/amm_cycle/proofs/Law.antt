-- The trades of a cycle are a route that delivers its profit.
use Rattle.std.proofs.Common.{◌≡◌, ◌≢◌, ℕ, ◌+◌, ◌<◌, ◌≤◌, ◌^◌, Bool, true, false, cond, List, [], ◌∷◌, length, map, arith, zero, suc, refl, sym, ap, subst, ◌∙◌, get_or}
use Rattle.std.specs.Prelude.{All, AllPairs, nat_lt}
use Rattle.std.specs.Str.{bytes_eq}
use Rattle.std.proofs.lemmas.Slice.Eq.{bytes_eq-Decides}
use Rattle.std.proofs.lemmas.List.Elements.{All-cons, All-tail}
use Rattle.std.proofs.lemmas.List.Kept.{AllPairs-cons}
use Rattle.std.proofs.lemmas.List.Sums.{sum_by-cons}
use Rattle.std.proofs.Math.Nat.{mul-zero, sub-zero, add-zero}
use Rattle.amm_model.specs.declared.problem.ProblemPool.{ProblemPool}
use Rattle.amm_model.specs.declared.route.Hop.{Hop}
use Rattle.amm_model.specs.declared.route.Leg.{Leg}
use Rattle.amm_model.specs.Swap.{amount_out_of}
use Rattle.amm_model.specs.Routing.{OpenView, PoolTrade, ArePrices, IsOpenProblem, HasReserves, IsTrade, IsRoute, pool_of, fee_of, token0_of, token1_of, amount_given, amount_put_in, amount_taken_out, delivered_by, amount_in_token, no_pool}
use Rattle.amm_names.specs.Names.{Name}
use Rattle.amm_model.specs.Bound.{bound_of}
use Rattle.amm_model.specs.Legs.{trade_of}
use Rattle.amm_model.specs.Paths.{IsHop, Leads, gives, hop_from, hop_gives, hop_places, hop_to, leg_of_hop, legs_along}
use Rattle.amm_model.specs.Cycles.{IsCycle, IsCycleTrade, StandsOn, profit}
use Rattle.amm_model.proofs.Swap.{fee_range, admits_turned, greatest_output, amount_out-lt}
use Rattle.amm_model.proofs.Problems.{fee_of-is}
use Rattle.amm_bound.proofs.Law.{no_route_beats_bound}
use Rattle.amm_legs.proofs.Portions.{gives-zero}
use Rattle.amm_graph.proofs.Lists.{All-none, AllPairs-none}

-- ---- each trade

gives-some : (pools : List ProblemPool) (hops : List Hop) (x : ℕ) → 1 ≤ gives pools hops x → 1 ≤ x
gives-some pools hops zero some = let e = gives-zero pools hops in omega arith
gives-some pools hops (suc x) some = omega arith

-- a number that a test lets through
let-through : (a b v : ℕ) → 1 ≤ cond (nat_lt a b) v 0 → cond (nat_lt a b) v 0 ≡ v
let-through a b v some = pick (nat_lt a b) some
  where
    pick : (t : Bool) → 1 ≤ cond t v 0 → cond t v 0 ≡ v
    pick true some = refl
    pick false some = absurd (omega (arith, some))

-- a hop that gives something trades within its pool's reserves and rule
hop_trade : (pools : List ProblemPool) (hop : Hop) (x : ℕ) → All HasReserves pools → IsHop pools hop → 1 ≤ hop_gives pools hop x → IsTrade pools (trade_of (leg_of_hop pools hop x))
hop_trade pools hop x reserves legal some = by_side hop.pool hop.zero_in legal.there (hop_gives pools hop x) refl some
  where
    by_side : (place : ℕ) (z : Bool) → (let h : Hop = record { pool = place; zero_in = z } in
        place < length pools → (w : ℕ) → w ≡ hop_gives pools h x → 1 ≤ w → (let l : Leg = record { pool = place; zero_in = z; input = x; output = w } in IsTrade pools (trade_of l)))
    by_side place true there w is some =
        let r = reserves place no_pool there in
        let pays : w ≡ amount_out_of (fee_of (get_or pools place no_pool)) x (get_or pools place no_pool).r0 (get_or pools place no_pool).r1 = is ∙ let-through ((get_or pools place no_pool).b0 + x) (2 ^ 48) _ (subst (λ (n : ℕ). 1 ≤ n) is some) in
        record {
          there = there;
          within0 = r.0;
          within1 = rw pays (amount_out-lt (fee_of (get_or pools place no_pool)) x (get_or pools place no_pool).r0 (get_or pools place no_pool).r1 r.0 r.2);
          admitted = rw pays (simp (mul-zero, sub-zero, add-zero) (simp (mul-zero, sub-zero) at (greatest_output (fee_of (get_or pools place no_pool)) x (get_or pools place no_pool).r0 (get_or pools place no_pool).r1 (omega (arith, fee_range (fee_of (get_or pools place no_pool)) (fee_of-is (get_or pools place no_pool)))) r.0 r.2).0));
        }
    by_side place false there w is some =
        let r = reserves place no_pool there in
        let pays : w ≡ amount_out_of (fee_of (get_or pools place no_pool)) x (get_or pools place no_pool).r1 (get_or pools place no_pool).r0 = is ∙ let-through ((get_or pools place no_pool).b1 + x) (2 ^ 48) _ (subst (λ (n : ℕ). 1 ≤ n) is some) in
        record {
          there = there;
          within0 = rw pays (amount_out-lt (fee_of (get_or pools place no_pool)) x (get_or pools place no_pool).r1 (get_or pools place no_pool).r0 r.2 r.0);
          within1 = r.2;
          admitted = rw pays (simp (mul-zero, sub-zero, add-zero) (simp (mul-zero, sub-zero) at (admits_turned _ _ _ _ _ _ _ (greatest_output (fee_of (get_or pools place no_pool)) x (get_or pools place no_pool).r1 (get_or pools place no_pool).r0 (omega (arith, fee_range (fee_of (get_or pools place no_pool)) (fee_of-is (get_or pools place no_pool)))) r.2 r.0).0)));
        }

are_trades : (pools : List ProblemPool) (hops : List Hop) (x : ℕ) → All HasReserves pools → All (IsHop pools) hops → 1 ≤ gives pools hops x → All (IsTrade pools) (map trade_of (legs_along pools hops x))
are_trades pools [] x reserves legal some = All-none (IsTrade pools)
are_trades pools (hop ∷ hops) x reserves legal some =
    All-cons (IsTrade pools) (trade_of (leg_of_hop pools hop x)) (map trade_of (legs_along pools hops (hop_gives pools hop x)))
    (hop_trade pools hop x reserves (legal 0 hop (omega arith)) (gives-some pools hops (hop_gives pools hop x) some))
    (are_trades pools hops (hop_gives pools hop x) reserves (All-tail (IsHop pools) hop hops legal) some)

-- ---- each pool once

place_of_trade : (leg : Leg) → (trade_of leg).place ≡ leg.pool
place_of_trade leg = by_side leg.pool leg.zero_in leg.input leg.output
  where
    by_side : (place : ℕ) (z : Bool) (input output : ℕ) → (trade_of (record { pool = place; zero_in = z; input = input; output = output })).place ≡ place
    by_side place true input output = refl
    by_side place false input output = refl

apart_from : (p : ℕ) (pools : List ProblemPool) (hops : List Hop) (x : ℕ) → All (λ (q : ℕ). p ≢ q) (hop_places hops) → All (λ (t : PoolTrade). p ≢ t.place) (map trade_of (legs_along pools hops x))
apart_from p pools [] x apart = All-none (λ (t : PoolTrade). p ≢ t.place)
apart_from p pools (hop ∷ hops) x apart =
    All-cons (λ (t : PoolTrade). p ≢ t.place) (trade_of (leg_of_hop pools hop x)) (map trade_of (legs_along pools hops (hop_gives pools hop x)))
    (λ e. apart 0 0 (omega arith) (e ∙ place_of_trade (leg_of_hop pools hop x)))
    (apart_from p pools hops (hop_gives pools hop x) (All-tail (λ (q : ℕ). p ≢ q) hop.pool (hop_places hops) apart))

trades_once : (pools : List ProblemPool) (hops : List Hop) (x : ℕ) → AllPairs (λ (a b : ℕ). a ≢ b) (hop_places hops) → AllPairs (λ (a b : PoolTrade). a.place ≢ b.place) (map trade_of (legs_along pools hops x))
trades_once pools [] x different = AllPairs-none (λ (a b : PoolTrade). a.place ≢ b.place)
trades_once pools (hop ∷ hops) x different =
    AllPairs-cons (λ (a b : PoolTrade). a.place ≢ b.place) (trade_of (leg_of_hop pools hop x)) (map trade_of (legs_along pools hops (hop_gives pools hop x)))
    (subst (λ (n : ℕ). All (λ (t : PoolTrade). n ≢ t.place) (map trade_of (legs_along pools hops (hop_gives pools hop x)))) (sym (place_of_trade (leg_of_hop pools hop x)))
    (apart_from hop.pool pools hops (hop_gives pools hop x) (λ k d below. different 0 (suc k) d (omega arith) (omega arith))))
    (trades_once pools hops (hop_gives pools hop x) (λ i j d ij below. different (suc i) (suc j) d (omega arith) (omega arith)))

-- ---- what goes in and comes out

nothing : (b : Bool) → cond b 0 0 ≡ (let none : ℕ = 0 in none)
nothing true = refl
nothing false = refl

put_in : (pools : List ProblemPool) (place : ℕ) (z : Bool) (x w : ℕ) (y : Name) →
    (let h : Hop = record { pool = place; zero_in = z } in let l : Leg = record { pool = place; zero_in = z; input = x; output = w } in
    amount_in_token y (pool_of pools (trade_of l)) (trade_of l).in0 (trade_of l).in1 ≡ cond (bytes_eq y (hop_from pools h)) x 0)
put_in pools place true x w y = omega (arith, nothing (bytes_eq y (token1_of (get_or pools place no_pool))))
put_in pools place false x w y = omega (arith, nothing (bytes_eq y (token0_of (get_or pools place no_pool))))

taken_out : (pools : List ProblemPool) (place : ℕ) (z : Bool) (x w : ℕ) (y : Name) →
    (let h : Hop = record { pool = place; zero_in = z } in let l : Leg = record { pool = place; zero_in = z; input = x; output = w } in
    amount_in_token y (pool_of pools (trade_of l)) (trade_of l).out0 (trade_of l).out1 ≡ cond (bytes_eq y (hop_to pools h)) w 0)
taken_out pools place true x w y = omega (arith, nothing (bytes_eq y (token0_of (get_or pools place no_pool))))
taken_out pools place false x w y = omega (arith, nothing (bytes_eq y (token1_of (get_or pools place no_pool))))

-- over hops that lead from one token to another
balance : (pools : List ProblemPool) (first last : Name) (hops : List Hop) (x : ℕ) → Leads pools first hops last → (y : Name) →
    amount_put_in pools (map trade_of (legs_along pools hops x)) y + cond (bytes_eq y last) (gives pools hops x) 0
    ≡ amount_taken_out pools (map trade_of (legs_along pools hops x)) y + cond (bytes_eq y first) x 0
balance pools first last [] x leads y = let same : cond (bytes_eq y first) x 0 ≡ cond (bytes_eq y last) x 0 = ap (λ (n : Name). cond (bytes_eq y n) x 0) leads in omega arith
balance pools first last (hop ∷ hops) x leads y =
    let leg = leg_of_hop pools hop x in
    let rest = balance pools (hop_to pools hop) last hops (hop_gives pools hop x) leads.1 y in
    let ins = sum_by-cons (λ (t : PoolTrade). amount_in_token y (pool_of pools t) t.in0 t.in1) (trade_of leg) (map trade_of (legs_along pools hops (hop_gives pools hop x))) in
    let outs = sum_by-cons (λ (t : PoolTrade). amount_in_token y (pool_of pools t) t.out0 t.out1) (trade_of leg) (map trade_of (legs_along pools hops (hop_gives pools hop x))) in
    let here_in : amount_in_token y (pool_of pools (trade_of leg)) (trade_of leg).in0 (trade_of leg).in1 ≡ cond (bytes_eq y (hop_from pools hop)) x 0 = put_in pools hop.pool hop.zero_in x (hop_gives pools hop x) y in
    let here_out : amount_in_token y (pool_of pools (trade_of leg)) (trade_of leg).out0 (trade_of leg).out1 ≡ cond (bytes_eq y (hop_to pools hop)) (hop_gives pools hop x) 0 = taken_out pools hop.pool hop.zero_in x (hop_gives pools hop x) y in
    let start : cond (bytes_eq y (hop_from pools hop)) x 0 ≡ cond (bytes_eq y first) x 0 = ap (λ (n : Name). cond (bytes_eq y n) x 0) leads.0 in
    omega arith

-- ---- the law

eq-self : (y : Name) → bytes_eq y y ≡ true
eq-self y = (bytes_eq-Decides y y).1 refl

covered : (b : Bool) (ins outs x g given : ℕ) → x < g → ins + cond b g 0 ≡ outs + cond b x 0 → ins ≤ outs + given
covered true ins outs x g given more e = omega arith
covered false ins outs x g given more e = omega arith

cycle_route : (problem : OpenView) (hops : List Hop) (x : ℕ) → IsOpenProblem problem → IsCycle problem.pools problem.t hops → StandsOn problem.pools hops x →
    IsRoute problem (map trade_of (legs_along problem.pools hops x))
cycle_route problem hops x sound cycle stands = record {
  once = trades_once problem.pools hops x cycle.different;
  trades = are_trades problem.pools hops x sound.parts.reserves cycle.over (omega arith);
  covers = λ token. covered (bytes_eq token problem.t) _ _ x (gives problem.pools hops x) (amount_given problem token) stands (balance problem.pools problem.t problem.t hops x cycle.leads token);
}

cycle_delivers : (problem : OpenView) (hops : List Hop) (x : ℕ) → IsCycle problem.pools problem.t hops → StandsOn problem.pools hops x →
    delivered_by problem (map trade_of (legs_along problem.pools hops x)) ≡ profit problem.pools hops x
cycle_delivers problem hops x cycle stands =
    let all = balance problem.pools problem.t problem.t hops x cycle.leads problem.t in
    let g : cond (bytes_eq problem.t problem.t) (gives problem.pools hops x) 0 ≡ gives problem.pools hops x = ap (λ (b : Bool). cond b (gives problem.pools hops x) 0) (eq-self problem.t) in
    let i : cond (bytes_eq problem.t problem.t) x 0 ≡ x = ap (λ (b : Bool). cond b x 0) (eq-self problem.t) in
    omega arith

pub no_trade_beats : (problem : OpenView) (prices : List ℕ) (legs : List Leg) (gain : ℕ) → IsOpenProblem problem → length prices ≡ length problem.tokens → ArePrices prices →
    IsCycleTrade problem.pools problem.t legs gain → gain ≤ bound_of problem prices
no_trade_beats problem prices legs gain sound many priced trade =
    let route = cycle_route problem trade.hops trade.x sound trade.is_cycle trade.stands in
    let least = no_route_beats_bound problem prices (map trade_of (legs_along problem.pools trade.hops trade.x)) sound many priced route in
    let is = cycle_delivers problem trade.hops trade.x trade.is_cycle trade.stands in
    omega (arith, trade.gained)
