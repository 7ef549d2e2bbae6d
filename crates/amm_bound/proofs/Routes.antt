-- No route beats the bound: the values of trades add up to the nets of tokens.
use Rattle.std.proofs.Common.{◌≡◌, ℕ, ◌+◌, ◌-◌, ◌*◌, ◌≤◌, Bool, true, false, cond, List, [], ◌∷◌, arith, ap, refl}
use Rattle.std.specs.Prelude.{sum_by}
use Rattle.std.specs.List.{AllByRecursion}
use Rattle.std.specs.Bool.{Decides}
use Rattle.std.proofs.lemmas.List.Sums.{sum_by-cons}
use Rattle.std.proofs.Math.Nat.{mul-le-mul_left}
use Rattle.amm_model.proofs.Sums.{at, Once, In, sum_at, moved, exchanged, sum_by-le_each}

-- what each token's net comes to, t being what the route delivers
nets-le : {T : Type 0} (same : T → T → Bool) (decides : (a b : T) → Decides (same a b) (a ≡ b)) (into out given : T → ℕ) (t : T) →
    ((y : T) → into y ≤ out y + given y) →
    (y : T) → into y + at same t (out t - into t) y ≤ out y + given y
nets-le same decides into out given t covers y = pick (same y t) (decides y t)
  where
    pick : (b : Bool) → Decides b (y ≡ t) → into y + cond b (out t - into t) 0 ≤ out y + given y
    pick true at_t =
        let e : y ≡ t = at_t.0 refl in
        let i : into y ≡ into t = ap into e in
        let o : out y ≡ out t = ap out e in
        let c : into y ≤ out y + given y = covers y in
        omega arith
    pick false at_t =
        let c : into y ≤ out y + given y = covers y in
        omega arith

each_price-le : {T : Type 0} (p f g : T → ℕ) (ts : List T) → ((y : T) → f y ≤ g y) → AllByRecursion (λ y. p y * f y ≤ p y * g y) ts
each_price-le p f g [] h = tt
each_price-le p f g (y ∷ ts) h = (mul-le-mul_left (p y) (h y), each_price-le p f g ts h)

sum_times-plus : {T : Type 0} (p f g : T → ℕ) (ts : List T) → sum_by (λ y. p y * (f y + g y)) ts ≡ sum_by (λ y. p y * f y) ts + sum_by (λ y. p y * g y) ts
sum_times-plus p f g [] = refl
sum_times-plus p f g (y ∷ ts) = omega (arith, sum_by-cons (λ z. p z * (f z + g z)) y ts, sum_by-cons (λ z. p z * f z) y ts, sum_by-cons (λ z. p z * g z) y ts, sum_times-plus p f g ts)

-- the nets at their prices, summed over the tokens
nets_sum-le : {T : Type 0} (same : T → T → Bool) (decides : (a b : T) → Decides (same a b) (a ≡ b)) (p into out given : T → ℕ) (t : T) (ts : List T) →
    Once ts → In t ts → ((y : T) → into y ≤ out y + given y) →
    sum_by (λ y. p y * into y) ts + p t * (out t - into t) ≤ sum_by (λ y. p y * out y) ts + sum_by (λ y. p y * given y) ts
nets_sum-le same decides p into out given t ts once t-in covers =
    let each = sum_by-le_each (λ y. p y * (into y + at same t (out t - into t) y)) (λ y. p y * (out y + given y)) ts
    (each_price-le p (λ y. into y + at same t (out t - into t) y) (λ y. out y + given y) ts (nets-le same decides into out given t covers)) in
    let left = sum_times-plus p into (at same t (out t - into t)) ts in
    let right = sum_times-plus p out given ts in
    let delivered = sum_at same decides p t (out t - into t) ts once t-in in
    omega arith

-- the values of the trades: what each takes out is covered by what it brings in and its worth
values-le : {R : Type 0} (value_in value_out worth : R → ℕ) (route : List R) → AllByRecursion (λ r. value_out r ≤ value_in r + worth r) route →
    sum_by value_out route ≤ sum_by value_in route + sum_by worth route
values-le value_in value_out worth [] each = omega arith
values-le value_in value_out worth (r ∷ route) each =
    omega (arith, each.0, sum_by-cons value_in r route, sum_by-cons value_out r route, sum_by-cons worth r route, values-le value_in value_out worth route each.1)

-- The law, for any tokens, prices, gifts and worths.
pub delivered-le : {T R : Type 0} (same : T → T → Bool) (decides : (a b : T) → Decides (same a b) (a ≡ b)) (p given : T → ℕ)
    (token0 token1 : R → T) (in0 in1 out0 out1 worth : R → ℕ) (t : T) (ts : List T) (route : List R) →
    Once ts → In t ts →
    AllByRecursion (λ r. In (token0 r) ts × In (token1 r) ts) route →
    AllByRecursion (λ r. p (token0 r) * out0 r + p (token1 r) * out1 r ≤ p (token0 r) * in0 r + p (token1 r) * in1 r + worth r) route →
    ((y : T) → moved same token0 token1 in0 in1 route y ≤ moved same token0 token1 out0 out1 route y + given y) →
    p t * (moved same token0 token1 out0 out1 route t - moved same token0 token1 in0 in1 route t) ≤ sum_by (λ y. p y * given y) ts + sum_by worth route
delivered-le {T} {R} same decides p given token0 token1 in0 in1 out0 out1 worth t ts route once t-in there each covers =
    let nets = nets_sum-le same decides p (moved same token0 token1 in0 in1 route) (moved same token0 token1 out0 out1 route) given t ts once t-in covers in
    let ins = exchanged same decides p token0 token1 in0 in1 ts once route there in
    let outs = exchanged same decides p token0 token1 out0 out1 ts once route there in
    let values = values-le (λ (r : R). p (token0 r) * in0 r + p (token1 r) * in1 r) (λ (r : R). p (token0 r) * out0 r + p (token1 r) * out1 r) worth route each in
    omega arith
