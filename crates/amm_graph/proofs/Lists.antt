-- Lists joined one after the other.
use Rattle.std.proofs.Common.{◌≡◌, ℕ, ◌<◌, inl, inr, List, [], ◌∷◌, ◌++◌, map, arith, zero, suc, ap, subst, ◌∙◌}
use Rattle.std.specs.Prelude.{All, AllPairs, Contains}
use Rattle.std.proofs.lemmas.Bool.{cases_lt}
use Rattle.std.proofs.lemmas.List.{get_or-map}
use Rattle.std.proofs.Math.ListN.{length-map}
use Rattle.std.proofs.lemmas.List.Elements.{All-append, All-cons, All-tail, Contains-append_left, Contains-append_right}
use Rattle.std.proofs.lemmas.List.Kept.{AllPairs-cons}
use Rattle.amm_graph.specs.Ways.{joined}

pub All-none : {X : Type 0} (P : X → Type 0) → All P []
All-none P = λ k d below. absurd (omega arith)

pub AllPairs-none : {X : Type 0} (R : X → X → Type 0) → AllPairs R []
AllPairs-none R = λ i j d ij below. absurd (omega arith)

pub AllPairs-one : {X : Type 0} (R : X → X → Type 0) (x : X) → AllPairs R (x ∷ [])
AllPairs-one R x = λ i j d ij below. absurd (omega arith)

pub AllPairs-tail : {X : Type 0} (R : X → X → Type 0) (x : X) (xs : List X) → AllPairs R (x ∷ xs) → AllPairs R xs
AllPairs-tail R x xs pairs = λ i j d ij below. pairs (suc i) (suc j) d (omega arith) (omega arith)

pub AllPairs-append : {X : Type 0} (R : X → X → Type 0) (xs ys : List X) → AllPairs R xs → AllPairs R ys → All (λ (x : X). All (R x) ys) xs → AllPairs R (xs ++ ys)
AllPairs-append R [] ys first second across = second
AllPairs-append {X} R (x ∷ xs) ys first second across =
    AllPairs-cons R x (xs ++ ys)
    (All-append (R x) xs ys (λ k d below. first 0 (suc k) d (omega arith) (omega arith)) (across 0 x (omega arith)))
    (AllPairs-append R xs ys (AllPairs-tail R x xs first) second (All-tail (λ (z : X). All (R z) ys) x xs across))

pub AllPairs-map : {X Y : Type 0} (R : Y → Y → Type 0) (f : X → Y) (xs : List X) → AllPairs (λ (a b : X). R (f a) (f b)) xs → AllPairs R (map f xs)
AllPairs-map R f [] pairs = AllPairs-none R
AllPairs-map {X} {Y} R f (x ∷ xs) pairs =
    AllPairs-cons R (f x) (map f xs) (each xs (λ k d below. pairs 0 (suc k) d (omega arith) (omega arith))) (AllPairs-map R f xs (AllPairs-tail (λ (a b : X). R (f a) (f b)) x xs pairs))
  where
    each : (ys : List X) → All (λ (y : X). R (f x) (f y)) ys → All (R (f x)) (map f ys)
    each [] all = All-none (R (f x))
    each (y ∷ ys) all = All-cons (R (f x)) (f y) (map f ys) (all 0 y (omega arith)) (each ys (All-tail (λ (z : X). R (f x) (f z)) y ys all))

pub Contains-map : {X Y : Type 0} (f : X → Y) (xs : List X) (x : X) → Contains xs x → Contains (map f xs) (f x)
Contains-map f xs x (k, below, is) = (k, rw length-map below, get_or-map f xs k x (f x) below ∙ ap f is)

-- what holds of each list joined
pub All-joined : {X : Type 0} (P : X → Type 0) (f : ℕ → List X) (n : ℕ) → ((i : ℕ) → i < n → All P (f i)) → All P (joined f n)
All-joined P f zero each = All-none P
All-joined P f (suc n) each = All-append P (joined f n) (f n) (All-joined P f n (λ i below. each i (omega arith))) (each n (omega arith))

pub Contains-joined : {X : Type 0} (f : ℕ → List X) (n i : ℕ) (x : X) → i < n → Contains (f i) x → Contains (joined f n) x
Contains-joined f zero i x below has = absurd (omega arith)
Contains-joined {X} f (suc n) i x below has = elim (cases_lt i n) [
  | inl earlier ↦ Contains-append_left (joined f n) (f n) x (Contains-joined f n i x earlier has)
  | inr past ↦ (let same : i ≡ n = omega arith in Contains-append_right (joined f n) (f n) x (subst (λ (k : ℕ). Contains (f k) x) same has))
]

-- in order within each list and from list to list
pub AllPairs-joined : {X : Type 0} (R : X → X → Type 0) (f : ℕ → List X) (n : ℕ) → ((i : ℕ) → i < n → AllPairs R (f i)) →
    ((i j : ℕ) → i < j → j < n → All (λ (x : X). All (R x) (f j)) (f i)) → AllPairs R (joined f n)
AllPairs-joined R f zero within across = AllPairs-none R
AllPairs-joined {X} R f (suc n) within across =
    AllPairs-append R (joined f n) (f n) (AllPairs-joined R f n (λ i below. within i (omega arith)) (λ i j ij below. across i j ij (omega arith))) (within n (omega arith))
    (All-joined (λ (x : X). All (R x) (f n)) f n (λ i below. across i n below (omega arith)))

-- short lists
pub All1 : {X : Type 0} (P : X → Type 0) (x : X) → P x → All P (x ∷ [])
All1 P x a = All-cons P x [] a (All-none P)

pub All2 : {X : Type 0} (P : X → Type 0) (x y : X) → P x → P y → All P (x ∷ y ∷ [])
All2 P x y a b = All-cons P x (y ∷ []) a (All1 P y b)

pub All3 : {X : Type 0} (P : X → Type 0) (x y z : X) → P x → P y → P z → All P (x ∷ y ∷ z ∷ [])
All3 P x y z a b c = All-cons P x (y ∷ z ∷ []) a (All2 P y z b c)

pub Pairs2 : {X : Type 0} (R : X → X → Type 0) (x y : X) → R x y → AllPairs R (x ∷ y ∷ [])
Pairs2 R x y a = AllPairs-cons R x (y ∷ []) (All1 (R x) y a) (AllPairs-one R y)

pub Pairs3 : {X : Type 0} (R : X → X → Type 0) (x y z : X) → R x y → R x z → R y z → AllPairs R (x ∷ y ∷ z ∷ [])
Pairs3 R x y z a b c = AllPairs-cons R x (y ∷ z ∷ []) (All2 (R x) y z a b) (Pairs2 R y z c)

pub Pairs4 : {X : Type 0} (R : X → X → Type 0) (w x y z : X) → R w x → R w y → R w z → R x y → R x z → R y z → AllPairs R (w ∷ x ∷ y ∷ z ∷ [])
Pairs4 R w x y z a b c d e f = AllPairs-cons R w (x ∷ y ∷ z ∷ []) (All3 (R w) x y z a b c) (Pairs3 R x y z d e f)
