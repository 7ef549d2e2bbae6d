-- What `each` gives of a list that grows at its end.
use Rattle.std.proofs.Common.{◌≡◌, ℕ, suc, ◌+◌, ◌<◌, List, [], ◌∷◌, ◌++◌, length, take, drop, get_or, map, Result, Ok, Err, refl, sym, ap, ◌∙◌, add-one, drop-cons}
use Rattle.std.proofs.Math.Seq.{take-suc}
use Rattle.std.proofs.lemmas.List.{map-append, take-append-drop}
use Rattle.amm_model.specs.declared.fault.Refusal.{Refusal}
use Rattle.amm_model.specs.declared.fault.Fault.{Fault}
use Rattle.amm_model.specs.declared.fault.Fault.TheVariants as faults
use Rattle.amm_model.specs.Outcome.{◌>>=◌, Fails}
use Rattle.amm_model.specs.Json.{each}

-- the results of two lists, one after the other
abbrev joined : {B : Type 0} → Result (List B) Refusal → Result (List B) Refusal → Result (List B) Refusal
joined r s = r >>= λ ys. s >>= λ zs. Ok (ys ++ zs)

abbrev with_first : {B : Type 0} → Result B Refusal → Result (List B) Refusal → Result (List B) Refusal
with_first r s = r >>= λ y. s >>= λ ys. Ok (y ∷ ys)

joined-nil : {B : Type 0} (s : Result (List B) Refusal) → s ≡ joined (Ok []) s
joined-nil (Ok zs) = refl
joined-nil (Err e) = refl

joined-with_first : {B : Type 0} (r : Result B Refusal) (s t : Result (List B) Refusal) → with_first r (joined s t) ≡ joined (with_first r s) t
joined-with_first (Err e) s t = refl
joined-with_first (Ok y) (Err e) t = refl
joined-with_first (Ok y) (Ok ys) (Err e) = refl
joined-with_first (Ok y) (Ok ys) (Ok zs) = refl

pub each-append : {A B : Type 0} (f : A → Result B Refusal) (xs zs : List A) → each f (xs ++ zs) ≡ joined (each f xs) (each f zs)
unfolding each
each-append f [] zs = joined-nil (each f zs)
each-append f (x ∷ xs) zs = ap (with_first (f x)) (each-append f xs zs) ∙ joined-with_first (f x) (each f xs) (each f zs)

-- one more item
pub each-push : {A B : Type 0} (f : A → Result B Refusal) (xs : List A) (ys : List B) (x : A) (y : B) → each f xs ≡ Ok ys → f x ≡ Ok y → each f (xs ++ x ∷ []) ≡ Ok (ys ++ y ∷ [])
unfolding each
each-push f xs ys x y e h = each-append f xs (x ∷ []) ∙ rw (e, h) refl

-- the first refusal
pub each-refused : {A B : Type 0} (f : A → Result B Refusal) (xs : List A) (ys : List B) (x : A) (rest : List A) (r : Refusal) → each f xs ≡ Ok ys → f x ≡ Err r → each f (xs ++ x ∷ rest) ≡ Err r
unfolding each
each-refused f xs ys x rest r e h = each-append f xs (x ∷ rest) ∙ rw (e, h) refl

-- a loop that reads item by item: one more was read
pub each-next :
    {X D B : Type 0} (f : D → Result B Refusal) (v : X → D) (xs : List X) (i : ℕ) (x : X) (ys : List B) (y : B) →
    i < length xs → x ≡ get_or xs i x → each f (map v (take i xs)) ≡ Ok ys → f (v x) ≡ Ok y → each f (map v (take (i + 1) xs)) ≡ Ok (ys ++ y ∷ [])
each-next f v xs i x ys y lt is before h =
    rw (add-one, take-suc xs i x lt, ← is, map-append) (each-push f (map v (take i xs)) ys (v x) y before h)

-- one was refused
pub each-stops :
    {X D B : Type 0} (f : D → Result B Refusal) (v : X → D) (xs : List X) (i : ℕ) (x : X) (ys : List B) (r : Refusal) →
    i < length xs → x ≡ get_or xs i x → each f (map v (take i xs)) ≡ Ok ys → f (v x) ≡ Err r → each f (map v xs) ≡ Err r
each-stops f v xs i x ys r lt is before h =
    let whole : take i xs ++ (x ∷ drop (suc i) xs) ≡ xs = ap (λ z. take i xs ++ (z ∷ drop (suc i) xs)) is ∙ (ap (λ ds. take i xs ++ ds) (sym (drop-cons xs i x lt)) ∙ take-append-drop i xs) in
    ap (λ l. each f (map v l)) (sym whole) ∙ rw map-append (each-refused f (map v (take i xs)) ys (v x) (map v (drop (suc i) xs)) r before h)

-- the same, as `Gives` has it
pub each-fails :
    {X D B : Type 0} (f : D → Result B Refusal) (v : X → D) (xs : List X) (i : ℕ) (x : X) (ys : List B) (e : Fault) →
    i < length xs → x ≡ get_or xs i x → each f (map v (take i xs)) ≡ Ok ys → Fails e (f (v x)) → Fails e (each f (map v xs))
each-fails f v xs i x ys faults.Memory lt is before h = tt
each-fails f v xs i x ys (faults.Refused r) lt is before h = each-stops f v xs i x ys r lt is before h
