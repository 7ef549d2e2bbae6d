-- A list with one element in its middle or at its end.
use Rattle.std.proofs.Common.{List, [], ◌∷◌, ◌++◌, map, suc, arith}
use Rattle.std.specs.Prelude.{All, AllPairs}
use Rattle.std.proofs.lemmas.List.Elements.{All-cons, All-tail}
use Rattle.std.proofs.lemmas.List.Kept.{AllPairs-cons}
use Rattle.amm_graph.proofs.Lists.{All1, All-none, AllPairs-one, AllPairs-tail}

pub middle : {X : Type 0} (P : X → Type 0) (xs ys : List X) (x : X) → All P (xs ++ x ∷ ys) → P x
middle P [] ys x all = all 0 x (omega arith)
middle P (a ∷ xs) ys x all = middle P xs ys x (All-tail P a (xs ++ x ∷ ys) all)

middle-map : {X Y : Type 0} (P : Y → Type 0) (f : X → Y) (xs ys : List X) (x : X) → All P (map f (xs ++ x ∷ ys)) → P (f x)
middle-map P f [] ys x all = all 0 (f x) (omega arith)
middle-map P f (a ∷ xs) ys x all = middle-map P f xs ys x (All-tail P (f a) (map f (xs ++ x ∷ ys)) all)

-- what holds of each of those before with it
pub before : {X Y : Type 0} (R : Y → Y → Type 0) (f : X → Y) (xs ys : List X) (x : X) → AllPairs R (map f (xs ++ x ∷ ys)) → All (λ (y : X). R (f y) (f x)) xs
before R f [] ys x pairs = All-none (λ (y : _). R (f y) (f x))
before {X} R f (a ∷ xs) ys x pairs =
    All-cons (λ (y : X). R (f y) (f x)) a xs (middle-map (R (f a)) f xs ys x (λ k d below. pairs 0 (suc k) d (omega arith) (omega arith)))
    (before R f xs ys x (AllPairs-tail R (f a) (map f (xs ++ x ∷ ys)) pairs))

-- what holds of it with each of those behind
pub behind : {X Y : Type 0} (R : Y → Y → Type 0) (f : X → Y) (xs ys : List X) (x : X) → AllPairs R (map f (xs ++ x ∷ ys)) → All (R (f x)) (map f ys)
behind R f [] ys x pairs = λ k d below. pairs 0 (suc k) d (omega arith) (omega arith)
behind R f (a ∷ xs) ys x pairs = behind R f xs ys x (AllPairs-tail R (f a) (map f (xs ++ x ∷ ys)) pairs)

all-push : {X Y : Type 0} (P : Y → Type 0) (f : X → Y) (xs : List X) (x : X) → All P (map f xs) → P (f x) → All P (map f (xs ++ x ∷ []))
all-push P f [] x all last = All1 P (f x) last
all-push P f (y ∷ xs) x all last = All-cons P (f y) (map f (xs ++ x ∷ [])) (all 0 (f y) (omega arith)) (all-push P f xs x (All-tail P (f y) (map f xs) all) last)

pub pairs-push : {X Y : Type 0} (R : Y → Y → Type 0) (f : X → Y) (xs : List X) (x : X) → AllPairs R (map f xs) → All (λ (y : X). R (f y) (f x)) xs → AllPairs R (map f (xs ++ x ∷ []))
pairs-push R f [] x pairs all = AllPairs-one R (f x)
pairs-push {X} R f (y ∷ xs) x pairs all =
    AllPairs-cons R (f y) (map f (xs ++ x ∷ [])) (all-push (R (f y)) f xs x (λ k d below. pairs 0 (suc k) d (omega arith) (omega arith)) (all 0 y (omega arith)))
    (pairs-push R f xs x (AllPairs-tail R (f y) (map f xs) pairs) (All-tail (λ (z : X). R (f z) (f x)) y xs all))
