-- No route beats the bound: the law over the definitions.
use Rattle.std.proofs.Common.{◌≡◌, ◌≢◌, ℕ, ◌+◌, ◌*◌, ◌<◌, ◌≤◌, inl, inr, Bool, true, false, cond, ap, List, [], ◌∷◌, length, map, arith, zero, suc, subst, sym, refl, get_or}
use Rattle.std.specs.Prelude.{AllPairs, All, sum_by}
use Rattle.std.specs.List.{AllByRecursion}
use Rattle.std.specs.Str.{bytes_eq}
use Rattle.std.proofs.lemmas.Slice.Eq.{bytes_eq-Decides}
use Rattle.std.proofs.lemmas.List.Elements.{recursion_from_All}
use Rattle.std.proofs.lemmas.List.Sums.{sum-map, sum_by-cons, passes_at_first}
use Rattle.std.proofs.lemmas.List.{get_or-map}
use Rattle.std.proofs.Math.ListN.{length-map}
use Rattle.std.proofs.lemmas.Nat.{le-div}
use Rattle.amm_model.specs.declared.problem.Part.{Part}
use Rattle.amm_model.specs.declared.problem.ProblemPool.{ProblemPool}
use Rattle.amm_model.specs.Routing.{OpenView, PoolTrade, IsBefore, IsOpenProblem, IsTrade, IsRoute, ArePrices, token_place, pool_of, no_pool, fee_of, token0_of, token1_of, amount_given, given_by_parts, delivered_by}
use Rattle.amm_names.specs.Names.{Name}
use Rattle.amm_model.specs.Bound.{price_of, part_value, pool_worth, bound_of}
use Rattle.amm_model.proofs.Sums.{Once, In, at, once_places, sum_at, sum_by-plus, sum_by-same, sum_of_places-le}
use Rattle.amm_model.proofs.Swap.{fee_range}
use Rattle.amm_model.proofs.Problems.{before-apart, fee_of-is, none_given, once_tokens, parts_there, target_there, tokens_there}
use Rattle.amm_bound.proofs.Routes.{delivered-le}
use Rattle.amm_bound.proofs.Covered.{worth_covers}

once_from_pairs : {T : Type 0} (ts : List T) → AllPairs (λ (a b : T). a ≢ b) ts → Once ts
unfolding Once
once_from_pairs [] pairs = tt
once_from_pairs {T} (y ∷ ts) pairs = (
  recursion_from_All (λ (z : T). z ≢ y) ts (λ k d below e. pairs 0 (suc k) d (omega arith) (omega arith) (sym e)),
  once_from_pairs ts (λ i j d ij below. pairs (suc i) (suc j) d (omega arith) (omega arith)),
)

in_from_index : {T : Type 0} (ts : List T) (k : ℕ) (d : T) → k < length ts → In (get_or ts k d) ts
unfolding In
in_from_index [] k d below = absurd (omega arith)
in_from_index (y ∷ ts) zero d below = inl refl
in_from_index (y ∷ ts) (suc k) d below = inr (in_from_index ts k d (omega arith))

in_from_place : (ts : List Name) (name : Name) → token_place ts name < length ts → In name ts
in_from_place ts name below =
    let found : name ≡ get_or ts (token_place ts name) [] = (bytes_eq-Decides name (get_or ts (token_place ts name) [])).0 (passes_at_first (bytes_eq name) ts [] below) in
    subst (λ (n : Name). In n ts) (sym found) (in_from_index ts (token_place ts name) [] below)

-- each trade's tokens are among the problem's
trade_tokens_in : (tokens : List Name) (pools : List ProblemPool) (route : List PoolTrade) →
    All (λ (pool : ProblemPool). (token_place tokens (token0_of pool) < length tokens) × (token_place tokens (token1_of pool) < length tokens)) pools →
    AllByRecursion (IsTrade pools) route →
    AllByRecursion (λ (r : PoolTrade). In (token0_of (pool_of pools r)) tokens × In (token1_of (pool_of pools r)) tokens) route
trade_tokens_in tokens pools [] has trades = tt
trade_tokens_in tokens pools (r ∷ route) has trades =
    let here = has r.place no_pool trades.0.there in
    ((in_from_place tokens _ here.0, in_from_place tokens _ here.1), trade_tokens_in tokens pools route has trades.1)

-- each trade is covered by its pool's worth, which stands at its place among the worths
trades_covered : (tokens : List Name) (prices : List ℕ) (pools : List ProblemPool) (route : List PoolTrade) →
    AllByRecursion (IsTrade pools) route →
    AllByRecursion (λ (r : PoolTrade).
    price_of tokens prices (token0_of (pool_of pools r)) * r.out0 + price_of tokens prices (token1_of (pool_of pools r)) * r.out1
    ≤ price_of tokens prices (token0_of (pool_of pools r)) * r.in0 + price_of tokens prices (token1_of (pool_of pools r)) * r.in1
    + get_or (map (pool_worth tokens prices) pools) r.place 0) route
trades_covered tokens prices pools [] trades = tt
trades_covered tokens prices pools (r ∷ route) trades =
    let trade = trades.0 in
    let worth : get_or (map (pool_worth tokens prices) pools) r.place 0 ≡ pool_worth tokens prices (pool_of pools r) = get_or-map (pool_worth tokens prices) pools r.place no_pool 0 trade.there in
    let covered = worth_covers (fee_of (pool_of pools r)) (price_of tokens prices (token0_of (pool_of pools r))) (price_of tokens prices (token1_of (pool_of pools r))) (pool_of pools r).r0 (pool_of pools r).r1 r.in0 r.in1 r.out0 r.out1 (omega (arith, fee_range (fee_of (pool_of pools r)) (fee_of-is (pool_of pools r)))) trade.within0 trade.within1 trade.admitted in
    (rw worth covered, trades_covered tokens prices pools route trades.1)

places_within : (tokens : List Name) (prices : List ℕ) (pools : List ProblemPool) (route : List PoolTrade) → AllByRecursion (IsTrade pools) route →
    AllByRecursion (λ (r : PoolTrade). r.place < length (map (pool_worth tokens prices) pools)) route
places_within tokens prices pools [] trades = tt
places_within tokens prices pools (r ∷ route) trades = (rw length-map trades.0.there, places_within tokens prices pools route trades.1)

sum_of_none : (p : Name → ℕ) (ts : List Name) → sum_by (λ (y : Name). p y * 0) ts ≡ 0
sum_of_none p [] = refl
sum_of_none p (y ∷ ts) = omega (arith, sum_by-cons (λ (z : Name). p z * 0) y ts, sum_of_none p ts)

-- what is given of a token: that of the first part, and that of the others
given-cons : (part : Part) (parts : List Part) → All (λ (p : Part). p.token ≢ part.token) parts → (y : Name) →
    given_by_parts (part ∷ parts) y ≡ at bytes_eq part.token part.amount y + given_by_parts parts y
given-cons part parts apart y = pick (bytes_eq y part.token) (bytes_eq-Decides y part.token).0
  where
    pick : (b : Bool) → (b ≡ true → y ≡ part.token) → cond b part.amount (given_by_parts parts y) ≡ cond b part.amount 0 + given_by_parts parts y
    pick true says =
        let none : given_by_parts parts y ≡ 0 = subst (λ (n : Name). given_by_parts parts n ≡ 0) (sym (says refl)) (none_given parts part.token apart) in
        omega arith
    pick false says = omega arith

-- at their prices the tokens are given what the parts are worth
given_value : (tokens : List Name) (prices : List ℕ) → Once tokens → (parts : List Part) →
    AllPairs (λ (a b : Part). IsBefore a.token b.token) parts → All (λ (part : Part). token_place tokens part.token < length tokens) parts →
    sum_by (λ (y : Name). price_of tokens prices y * given_by_parts parts y) tokens ≡ sum_by (part_value tokens prices) parts
given_value tokens prices once [] rising there = sum_of_none (price_of tokens prices) tokens
given_value tokens prices once (part ∷ parts) rising there =
    let price : Name → ℕ = price_of tokens prices in
    let apart : All (λ (p : Part). p.token ≢ part.token) parts = λ k d below e. before-apart part.token (get_or parts k d).token (rising 0 (suc k) d (omega arith) (omega arith)) (sym e) in
    let split = sum_by-same (λ (y : Name). price y * given_by_parts (part ∷ parts) y) (λ (y : Name). price y * at bytes_eq part.token part.amount y + price y * given_by_parts parts y) tokens
    (λ y. let m = ap (λ (n : ℕ). price y * n) (given-cons part parts apart y) in omega arith) in
    let sums = sum_by-plus (λ (y : Name). price y * at bytes_eq part.token part.amount y) (λ (y : Name). price y * given_by_parts parts y) tokens in
    let here = sum_at bytes_eq bytes_eq-Decides price part.token part.amount tokens once (in_from_place tokens part.token (there 0 part (omega arith))) in
    let rest = given_value tokens prices once parts (λ i j d ij below. rising (suc i) (suc j) d (omega arith) (omega arith)) (λ k d below. there (suc k) d (omega arith)) in
    let whole = sum_by-cons (part_value tokens prices) part parts in
    omega arith

pub no_route_beats_bound : (problem : OpenView) (prices : List ℕ) (route : List PoolTrade) →
    IsOpenProblem problem → length prices ≡ length problem.tokens → ArePrices prices → IsRoute problem route →
    delivered_by problem route ≤ bound_of problem prices
no_route_beats_bound problem prices route sound as_many ranges is_route =
    let price : Name → ℕ = price_of problem.tokens prices in
    let once = once_from_pairs problem.tokens (once_tokens problem sound) in
    let trades = recursion_from_All (IsTrade problem.pools) route is_route.trades in
    let values = delivered-le bytes_eq bytes_eq-Decides price (amount_given problem)
    (λ (r : PoolTrade). token0_of (pool_of problem.pools r)) (λ (r : PoolTrade). token1_of (pool_of problem.pools r))
    (λ (r : PoolTrade). r.in0) (λ (r : PoolTrade). r.in1) (λ (r : PoolTrade). r.out0) (λ (r : PoolTrade). r.out1)
    (λ (r : PoolTrade). get_or (map (pool_worth problem.tokens prices) problem.pools) r.place 0)
    problem.t problem.tokens route
    once (in_from_place problem.tokens problem.t (target_there problem sound))
    (trade_tokens_in problem.tokens problem.pools route (tokens_there problem sound) trades)
    (trades_covered problem.tokens prices problem.pools route trades)
    is_route.covers in
    let gifts = given_value problem.tokens prices once problem.parts sound.parts.rising (parts_there problem sound) in
    let worths = sum_of_places-le (λ (r : PoolTrade). r.place) (map (pool_worth problem.tokens prices) problem.pools) route (once_places (λ (r : PoolTrade). r.place) route is_route.once) (places_within problem.tokens prices problem.pools route trades) in
    let summed = sum-map (pool_worth problem.tokens prices) problem.pools in
    let priced : 0 < price problem.t = (ranges (token_place problem.tokens problem.t) 0 (omega (arith, target_there problem sound))).0 in
    le-div _ _ _ priced (omega arith)
