-- Prices that are read one by one, each beside its token.
use Rattle.std.proofs.Common.{◌≡◌, ℕ, suc, ◌+◌, ◌<◌, ◌≤◌, ◌^◌, List, [], ◌∷◌, ◌++◌, length, take, drop, get_or, map, Bool, true, false, ◌&&◌, Ok, Err, refl, sym, ap, subst, ◌∙◌, add-one, drop-cons, arith}
use Rattle.std.specs.List.{list_all, AllByRecursion}
use Rattle.std.proofs.Math.Seq.{take-suc}
use Rattle.std.proofs.lemmas.List.{map-append, take-append-drop}
use Rattle.std.proofs.lemmas.List.Elements.{All-from_recursion}
use Rattle.std.proofs.lemmas.Bool.Decides.{nat_tests}
use Rattle.serde_json.specs.Data.{Data}
use Rattle.amm_model.specs.declared.fault.Refusal.{Refusal}
use Rattle.amm_model.specs.declared.fault.Fault.{Fault}
use Rattle.amm_model.specs.declared.fault.Fault.TheVariants as faults
use Rattle.amm_model.specs.Outcome.{Fails}
use Rattle.amm_model.specs.Routing.{ArePrices}
use Rattle.amm_model.proofs.Guards.{given, same_answer}
use Rattle.amm_cert.specs.Rows.{as_price, each_price, is_price}

behind : (t : List ℕ) (d : Data) (ts : List (List ℕ)) (ds : List Data) (x : ℕ) (r : List ℕ) → as_price t d ≡ Ok x → each_price ts ds ≡ Ok r → each_price (t ∷ ts) (d ∷ ds) ≡ Ok (x ∷ r)
unfolding each_price
behind t d ts ds x r e f = rw (e, f) refl

behind_refused : (t : List ℕ) (d : Data) (ts : List (List ℕ)) (ds : List Data) (x : ℕ) (r : Refusal) → as_price t d ≡ Ok x → each_price ts ds ≡ Err r → each_price (t ∷ ts) (d ∷ ds) ≡ Err r
unfolding each_price
behind_refused t d ts ds x r e f = rw (e, f) refl

push : (ts : List (List ℕ)) (ds : List Data) (ps : List ℕ) (t : List ℕ) (d : Data) (p : ℕ) → each_price ts ds ≡ Ok ps → as_price t d ≡ Ok p → each_price (ts ++ t ∷ []) (ds ++ d ∷ []) ≡ Ok (ps ++ p ∷ [])
unfolding each_price
push [] [] ps t d p e h = let none = same_answer [] ps e in rw (h, ← none) refl
push [] (d' ∷ ds) ps t d p e h = cc
push (t' ∷ ts) [] ps t d p e h = cc
push (t' ∷ ts) (d' ∷ ds) ps t d p e h =
    let first = given (as_price t' d') _ ps e in
    let rest = given (each_price ts ds) _ ps first.after in
    let all = same_answer (first.value ∷ rest.value) ps rest.after in
    subst (λ l. each_price ((t' ∷ ts) ++ t ∷ []) ((d' ∷ ds) ++ d ∷ []) ≡ Ok (l ++ p ∷ [])) all
    (behind t' d' (ts ++ t ∷ []) (ds ++ d ∷ []) first.value (rest.value ++ p ∷ []) first.was (push ts ds rest.value t d p rest.was h))

refused : (ts us : List (List ℕ)) (ds es : List Data) (ps : List ℕ) (t : List ℕ) (d : Data) (r : Refusal) → each_price ts ds ≡ Ok ps → as_price t d ≡ Err r → each_price (ts ++ t ∷ us) (ds ++ d ∷ es) ≡ Err r
unfolding each_price
refused [] us [] es ps t d r e h = rw h refl
refused [] us (d' ∷ ds) es ps t d r e h = cc
refused (t' ∷ ts) us [] es ps t d r e h = cc
refused (t' ∷ ts) us (d' ∷ ds) es ps t d r e h =
    let first = given (as_price t' d') _ ps e in
    let rest = given (each_price ts ds) _ ps first.after in
    behind_refused t' d' (ts ++ t ∷ us) (ds ++ d ∷ es) first.value r first.was (refused ts us ds es rest.value t d r rest.was h)

-- one more was read
pub price-next :
    {X : Type 0} (v : X → Data) (ts : List (List ℕ)) (xs : List X) (i : ℕ) (t : List ℕ) (x : X) (ps : List ℕ) (p : ℕ) →
    i < length ts → i < length xs → t ≡ get_or ts i t → x ≡ get_or xs i x →
    each_price (take i ts) (map v (take i xs)) ≡ Ok ps → as_price t (v x) ≡ Ok p → each_price (take (i + 1) ts) (map v (take (i + 1) xs)) ≡ Ok (ps ++ p ∷ [])
price-next v ts xs i t x ps p lt lx it is before h =
    rw (add-one, take-suc ts i t lt, take-suc xs i x lx, ← it, ← is, map-append) (push (take i ts) (map v (take i xs)) ps t (v x) p before h)

whole_of : {Y : Type 0} (ys : List Y) (i : ℕ) (y : Y) → i < length ys → y ≡ get_or ys i y → take i ys ++ (y ∷ drop (suc i) ys) ≡ ys
whole_of ys i y lt is = ap (λ z. take i ys ++ (z ∷ drop (suc i) ys)) is ∙ (ap (λ l. take i ys ++ l) (sym (drop-cons ys i y lt)) ∙ take-append-drop i ys)

-- one was refused
stops :
    {X : Type 0} (v : X → Data) (ts : List (List ℕ)) (xs : List X) (i : ℕ) (t : List ℕ) (x : X) (ps : List ℕ) (r : Refusal) →
    i < length ts → i < length xs → t ≡ get_or ts i t → x ≡ get_or xs i x →
    each_price (take i ts) (map v (take i xs)) ≡ Ok ps → as_price t (v x) ≡ Err r → each_price ts (map v xs) ≡ Err r
stops v ts xs i t x ps r lt lx it is before h =
    ap (λ l. each_price l (map v xs)) (sym (whole_of ts i t lt it))
    ∙ ap (λ l. each_price (take i ts ++ (t ∷ drop (suc i) ts)) (map v l)) (sym (whole_of xs i x lx is))
    ∙ rw map-append (refused (take i ts) (drop (suc i) ts) (map v (take i xs)) (map v (drop (suc i) xs)) ps t (v x) r before h)

pub price-fails :
    {X : Type 0} (v : X → Data) (ts : List (List ℕ)) (xs : List X) (i : ℕ) (t : List ℕ) (x : X) (ps : List ℕ) (e : Fault) →
    i < length ts → i < length xs → t ≡ get_or ts i t → x ≡ get_or xs i x →
    each_price (take i ts) (map v (take i xs)) ≡ Ok ps → Fails e (as_price t (v x)) → Fails e (each_price ts (map v xs))
price-fails v ts xs i t x ps faults.Memory lt lx it is before h = tt
price-fails v ts xs i t x ps (faults.Refused r) lt lx it is before h = stops v ts xs i t x ps r lt lx it is before h

-- ---- prices in their range

price_is : (p : ℕ) → is_price p ≡ true → (1 ≤ p) × (p < 2 ^ 40)
price_is p e = (grind (arith, nat_tests), grind (arith, nat_tests))

is_price_of : (p : ℕ) → (1 ≤ p) × (p < 2 ^ 40) → is_price p ≡ true
is_price_of p (low, high) = grind (arith, nat_tests)

both : (a b : Bool) → (a && b) ≡ true → (a ≡ true) × (b ≡ true)
both true b e = (refl, e)
both false b e = cc

fit : (ps : List ℕ) → list_all is_price ps ≡ true → AllByRecursion (λ (p : ℕ). (1 ≤ p) × (p < 2 ^ 40)) ps
fit [] e = tt
fit (p ∷ ps) e = let parts = both (is_price p) (list_all is_price ps) e in (price_is p parts.0, fit ps parts.1)

pub prices_fit : (ps : List ℕ) → list_all is_price ps ≡ true → ArePrices ps
prices_fit ps e = All-from_recursion (λ (p : ℕ). (1 ≤ p) × (p < 2 ^ 40)) ps (fit ps e)

pub prices_pass : (ps : List ℕ) → ArePrices ps → list_all is_price ps ≡ true
prices_pass [] h = refl
prices_pass (p ∷ ps) h = rw (is_price_of p (h 0 0 (omega arith)), prices_pass ps (λ k d lt. h (suc k) d (omega arith))) refl

by_test : (b : Bool) → (b ≡ true → ⊥) → b ≡ false
by_test true never = absurd (never refl)
by_test false never = refl

pub prices_misfit : (ps : List ℕ) → ¬ ArePrices ps → list_all is_price ps ≡ false
prices_misfit ps unfit = by_test (list_all is_price ps) (λ e. unfit (prices_fit ps e))
