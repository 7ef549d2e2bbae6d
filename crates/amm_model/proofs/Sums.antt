-- Sums over tokens and over trades, and their exchange.
use Rattle.std.proofs.Common.{◌≡◌, ◌≢◌, ℕ, ◌+◌, ◌*◌, ◌<◌, ◌≤◌, ◌⊎◌, inl, inr, Bool, true, false, cond, List, [], ◌∷◌, length, arith, suc, subst, ap, sym, refl, get_or, set}
use Rattle.std.specs.Prelude.{AllPairs, sum_by}
use Rattle.std.specs.List.{AllByRecursion}
use Rattle.std.specs.Bool.{Decides}
use Rattle.std.proofs.lemmas.List.Elements.{recursion_from_All}
use Rattle.std.proofs.lemmas.List.Sums.{sum_by-cons, sum_by-set}
use Rattle.std.proofs.lemmas.List.{get_or-set_other}
use Rattle.std.proofs.Math.ListN.{length-set}
use Rattle.std.proofs.Math.Nat.{le_of_eq}

pub sum_by-plus : {X : Type 0} (f g : X → ℕ) (xs : List X) → sum_by (λ x. f x + g x) xs ≡ sum_by f xs + sum_by g xs
sum_by-plus f g [] = refl
sum_by-plus f g (x ∷ xs) = omega (arith, sum_by-cons (λ y. f y + g y) x xs, sum_by-cons f x xs, sum_by-cons g x xs, sum_by-plus f g xs)

-- a sum whose terms are each at most another's
pub sum_by-le_each : {X : Type 0} (f g : X → ℕ) (xs : List X) → AllByRecursion (λ x. f x ≤ g x) xs → sum_by f xs ≤ sum_by g xs
sum_by-le_each f g [] each = omega arith
sum_by-le_each f g (x ∷ xs) each = omega (arith, each.0, sum_by-cons f x xs, sum_by-cons g x xs, sum_by-le_each f g xs each.1)

-- equal terms, equal sums
pub sum_by-same : {X : Type 0} (f g : X → ℕ) (xs : List X) → ((x : X) → f x ≡ g x) → sum_by f xs ≡ sum_by g xs
sum_by-same f g [] same = refl
sum_by-same f g (x ∷ xs) same = omega (arith, same x, sum_by-cons f x xs, sum_by-cons g x xs, sum_by-same f g xs same)

-- what x comes to at y, where only j counts
abbrev pub at : {T : Type 0} → (T → T → Bool) → T → ℕ → T → ℕ
at same j x y = cond (same y j) x 0

-- where y is not j nothing counts
pub at-other : {T : Type 0} (same : T → T → Bool) → ((a b : T) → Decides (same a b) (a ≡ b)) → (j : T) (x : ℕ) (y : T) → y ≢ j → at same j x y ≡ 0
at-other same decides j x y apart = pick (same y j) (decides y j).0
  where
    pick : (b : Bool) → (b ≡ true → y ≡ j) → cond b x 0 ≡ 0
    pick true says = absurd (apart (says refl))
    pick false says = refl

pub at-same : {T : Type 0} (same : T → T → Bool) → ((a b : T) → Decides (same a b) (a ≡ b)) → (j : T) (x : ℕ) → at same j x j ≡ x
at-same same decides j x = ap (λ (b : Bool). cond b x 0) ((decides j j).1 refl)

-- every element differs from j: nothing counts
sum_at-other : {T : Type 0} (same : T → T → Bool) (decides : (a b : T) → Decides (same a b) (a ≡ b)) (p : T → ℕ) (j : T) (x : ℕ) (ts : List T) →
    AllByRecursion (λ y. y ≢ j) ts → sum_by (λ y. p y * at same j x y) ts ≡ 0
sum_at-other same decides p j x [] apart = refl
sum_at-other same decides p j x (y ∷ ts) apart =
    let zero_here : p y * at same j x y ≡ p y * 0 = ap (λ (n : ℕ). p y * n) (at-other same decides j x y apart.0) in
    omega (arith, zero_here, sum_by-cons (λ z. p z * at same j x z) y ts, sum_at-other same decides p j x ts apart.1)

-- no element twice, by recursion
unfoldable pub Once : {T : Type 0} → List T → Type 0
Once [] = Unit {0}
Once (y ∷ ts) = AllByRecursion (λ z. z ≢ y) ts × Once ts

-- j is an element, by recursion
unfoldable pub In : {T : Type 0} → T → List T → Type 0
In j [] = ⊥
In j (y ∷ ts) = (y ≡ j) ⊎ In j ts

-- what holds of each element holds of one that is in the list
pub at_an_element : {T : Type 0} (P : T → Type 0) (j : T) (ts : List T) → AllByRecursion P ts → In j ts → P j
unfolding In
at_an_element P j [] each there = absurd there
at_an_element P j (y ∷ ts) each (inl here) = subst P here each.0
at_an_element P j (y ∷ ts) each (inr later) = at_an_element P j ts each.1 later

-- one element counts, with its price
pub sum_at : {T : Type 0} (same : T → T → Bool) (decides : (a b : T) → Decides (same a b) (a ≡ b)) (p : T → ℕ) (j : T) (x : ℕ) (ts : List T) →
    Once ts → In j ts → sum_by (λ y. p y * at same j x y) ts ≡ p j * x
unfolding Once In
sum_at same decides p j x [] once there = absurd there
sum_at {T} same decides p j x (y ∷ ts) once (inl here) =
    let others : AllByRecursion (λ z. z ≢ j) ts = subst (λ (k : T). AllByRecursion (λ z. z ≢ k) ts) here once.0 in
    let counts : p y * at same j x y ≡ p j * at same j x j = ap (λ (k : T). p k * at same j x k) here in
    let whole : p j * at same j x j ≡ p j * x = ap (λ (n : ℕ). p j * n) (at-same same decides j x) in
    omega (arith, counts, whole, sum_by-cons (λ z. p z * at same j x z) y ts, sum_at-other same decides p j x ts others)
sum_at {T} same decides p j x (y ∷ ts) once (inr later) =
    let apart : j ≢ y = at_an_element (λ (z : T). z ≢ y) j ts once.0 later in
    let nothing : p y * at same j x y ≡ p y * 0 = ap (λ (n : ℕ). p y * n) (at-other same decides j x y (λ e. apart (sym e))) in
    omega (arith, nothing, sum_by-cons (λ z. p z * at same j x z) y ts, sum_at same decides p j x ts once.1 later)

-- what the trades move of y, where trade r moves a0 and a1 of its two tokens
abbrev pub moved : {T R : Type 0} → (T → T → Bool) → (R → T) → (R → T) → (R → ℕ) → (R → ℕ) → List R → T → ℕ
moved same token0 token1 a0 a1 route y = sum_by (λ r. at same (token0 r) (a0 r) y + at same (token1 r) (a1 r) y) route

sum_of_zeros : {T : Type 0} (p : T → ℕ) (ts : List T) → sum_by (λ y. p y * 0) ts ≡ 0
sum_of_zeros p [] = refl
sum_of_zeros p (y ∷ ts) = omega (arith, sum_by-cons (λ z. p z * 0) y ts, sum_of_zeros p ts)

-- The sum over the tokens of what the trades move of each, at its price, is the sum over the trades
-- of what each moves of its two tokens.
pub exchanged : {T R : Type 0} (same : T → T → Bool) (decides : (a b : T) → Decides (same a b) (a ≡ b)) (p : T → ℕ)
    (token0 token1 : R → T) (a0 a1 : R → ℕ) (ts : List T) → Once ts → (route : List R) →
    AllByRecursion (λ r. In (token0 r) ts × In (token1 r) ts) route →
    sum_by (λ y. p y * moved same token0 token1 a0 a1 route y) ts
    ≡ sum_by (λ r. p (token0 r) * a0 r + p (token1 r) * a1 r) route
exchanged same decides p token0 token1 a0 a1 ts once [] there = sum_of_zeros p ts
exchanged {T} {R} same decides p token0 token1 a0 a1 ts once (r ∷ route) there =
    let later : T → ℕ = moved same token0 token1 a0 a1 route in
    let first : T → ℕ = λ y. p y * at same (token0 r) (a0 r) y in
    let second : T → ℕ = λ y. p y * at same (token1 r) (a1 r) y in
    let split = sum_by-same
    (λ (y : T). p y * moved same token0 token1 a0 a1 (r ∷ route) y)
    (λ (y : T). (first y + second y) + p y * later y) ts
    (λ y. let c = sum_by-cons (λ (q : R). at same (token0 q) (a0 q) y + at same (token1 q) (a1 q) y) r route in
    let m = ap (λ (n : ℕ). p y * n) c in omega (arith, m)) in
    let sums = sum_by-plus (λ (y : T). first y + second y) (λ (y : T). p y * later y) ts in
    let pair = sum_by-plus first second ts in
    let here0 = sum_at same decides p (token0 r) (a0 r) ts once there.0.0 in
    let here1 = sum_at same decides p (token1 r) (a1 r) ts once there.0.1 in
    let rest = exchanged same decides p token0 token1 a0 a1 ts once route there.1 in
    let whole = sum_by-cons (λ (q : R). p (token0 q) * a0 q + p (token1 q) * a1 q) r route in
    omega arith

-- no place twice among the trades, by recursion
unfoldable pub OncePlace : {R : Type 0} → (R → ℕ) → List R → Type 0
OncePlace place [] = Unit {0}
OncePlace place (r ∷ route) = AllByRecursion (λ q. place q ≢ place r) route × OncePlace place route

kept-le : {R : Type 0} (place : R → ℕ) (ws : List ℕ) (i : ℕ) (route : List R) → AllByRecursion (λ q. place q ≢ i) route →
    AllByRecursion (λ q. get_or ws (place q) 0 ≤ get_or (set ws i 0) (place q) 0) route
kept-le place ws i [] apart = tt
kept-le place ws i (q ∷ route) apart = (le_of_eq (sym (get_or-set_other ws i (place q) 0 0 apart.0)), kept-le place ws i route apart.1)

within-set : {R : Type 0} (place : R → ℕ) (ws : List ℕ) (i : ℕ) (route : List R) → AllByRecursion (λ q. place q < length ws) route →
    AllByRecursion (λ q. place q < length (set ws i 0)) route
within-set place ws i [] within = tt
within-set place ws i (q ∷ route) within = (rw (length-set ws i 0) within.0, within-set place ws i route within.1)

-- numbers at places that differ add up to at most the whole sum
pub sum_of_places-le : {R : Type 0} (place : R → ℕ) (ws : List ℕ) (route : List R) → OncePlace place route →
    AllByRecursion (λ q. place q < length ws) route → sum_by (λ q. get_or ws (place q) 0) route ≤ sum_by (λ w. w) ws
unfolding OncePlace
sum_of_places-le place ws [] once within = omega arith
sum_of_places-le place ws (r ∷ route) once within =
    let taken = sum_by-set (λ (w : ℕ). w) ws (place r) 0 0 within.0 in
    let rest = sum_of_places-le place (set ws (place r) 0) route once.1 (within-set place ws (place r) route within.1) in
    let kept = sum_by-le_each (λ (q : _). get_or ws (place q) 0) (λ (q : _). get_or (set ws (place r) 0) (place q) 0) route (kept-le place ws (place r) route once.0) in
    let whole = sum_by-cons (λ (q : _). get_or ws (place q) 0) r route in
    omega arith

-- places that differ pair by pair
pub once_places : {R : Type 0} (place : R → ℕ) (route : List R) → AllPairs (λ (a b : R). place a ≢ place b) route → OncePlace place route
unfolding OncePlace
once_places place [] pairs = tt
once_places {R} place (r ∷ route) pairs = (
  recursion_from_All (λ (q : R). place q ≢ place r) route (λ k d below e. pairs 0 (suc k) d (omega arith) (omega arith) (sym e)),
  once_places place route (λ i j d ij below. pairs (suc i) (suc j) d (omega arith) (omega arith)),
)
