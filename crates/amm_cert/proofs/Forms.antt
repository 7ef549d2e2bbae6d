-- What a form gave, and the value that it read.
use Rattle.std.proofs.Common.{◌≡◌, ℕ, suc, ◌<◌, ◌≤◌, ◌^◌, List, [], ◌∷◌, map, Bool, true, false, cond, ◌&&◌, nat_le, nat_lt, Some, None, Result, Ok, ok_or, decimal, refl, sym, ap, ap₂, subst, ◌∙◌, arith}
use Rattle.std.specs.Prelude.{IsTrue, codes}
use Rattle.std.specs.List.{All, AllByRecursion}
use Rattle.std.specs.Str.{bytes_eq}
use Rattle.std.specs.Str.Parse.{digits_value}
use Rattle.std.proofs.lemmas.Slice.Eq.{bytes_eq-Decides}
use Rattle.std.proofs.lemmas.Bool.Decides.{nat_tests}
use Rattle.serde_json.specs.Data.{Data, null, boolean, number, string, array, object, unsigned, negative, float}
use Rattle.serde_json.specs.View.{items_of}
use Rattle.amm_names.specs.Names.{is_token_name}
use Rattle.amm_names.specs.Pools.{is_pool_name}
use Rattle.amm_model.specs.declared.fault.Refusal.{Refusal}
use Rattle.amm_model.specs.declared.fault.Refusal.TheVariants.{BadCommand}
use Rattle.amm_model.specs.Outcome.{◌>>=◌}
use Rattle.amm_model.specs.Forms.{as_text, as_list, as_whole, as_amount, as_token, as_pool, value_if}
use Rattle.amm_model.specs.declared.limits.TheConstants.{AMOUNT_LIMIT}
use Rattle.amm_model.specs.Json.{each, elements, list, whole, wide}
use Rattle.amm_model.proofs.Guards.{given, same_answer, was_some}
use Rattle.amm_model.proofs.FormsFit.{amount_small}
use Rattle.amm_cert.specs.Rows.{as_unsigned, wide_of, as_wide, as_title}
use Rattle.amm_cert.proofs.Values.{elements-items_of, items_of-elements}
use Rattle.amm_cert.proofs.Wide.{wide_of-decimal}

pub text-is : (d : Data) (s : List ℕ) → as_text d ≡ Ok s → d ≡ string s
text-is null s e = cc
text-is (boolean b) s e = cc
text-is (number n) s e = cc
text-is (string r) s e = ap string (same_answer r s e)
text-is (array ds) s e = cc
text-is (object ms) s e = cc

pub list-is : (d : Data) (ds : List Data) → as_list d ≡ Ok ds → d ≡ list ds
list-is null ds e = cc
list-is (boolean b) ds e = cc
list-is (number n) ds e = cc
list-is (string r) ds e = cc
list-is (array es) ds e = ap array (sym (items_of-elements es) ∙ ap items_of (same_answer (elements es) ds e))
list-is (object ms) ds e = cc

pub list-of : (ds : List Data) → as_list (list ds) ≡ Ok ds
list-of ds = ap Ok (elements-items_of ds)

pub list-same : (ds es : List Data) → list ds ≡ list es → ds ≡ es
list-same ds es e = same_answer ds es (sym (list-of ds) ∙ ap as_list e ∙ list-of es)

whole-is : (d : Data) (n : ℕ) → as_whole d ≡ Ok n → d ≡ whole n
whole-is null n e = cc
whole-is (boolean b) n e = cc
whole-is (number (unsigned m)) n e = ap whole (same_answer m n e)
whole-is (number (negative z)) n e = cc
whole-is (number (float x)) n e = cc
whole-is (string r) n e = cc
whole-is (array ds) n e = cc
whole-is (object ms) n e = cc

pub unsigned-is : (d : Data) (n : ℕ) → as_unsigned d ≡ Ok n → d ≡ whole n
unfolding as_unsigned
unsigned-is d n e = whole-is d n e

pub unsigned-of : (n : ℕ) → as_unsigned (whole n) ≡ Ok n
unfolding as_unsigned
unsigned-of n = refl

-- what was fitting passed the test
pub passed : {A : Type 0} (test : Bool) (x made : A) → value_if test x ≡ Ok made → (test ≡ true) × (x ≡ made)
passed true x made is = (refl, same_answer x made is)
passed false x made is = cc

pub fits : {A : Type 0} (test : Bool) (x : A) → test ≡ true → value_if test x ≡ Ok x
fits true x e = refl
fits false x e = cc

pub amount-is : (d : Data) (n : ℕ) → as_amount d ≡ Ok n → (d ≡ whole n) × (n ≤ AMOUNT_LIMIT)
unfolding as_amount
amount-is d n e =
    let first = given (as_whole d) _ n e in
    let both = passed (nat_le first.value AMOUNT_LIMIT) first.value n first.after in
    (whole-is d first.value first.was ∙ ap whole both.1, amount_small d n e)

amount_passes : (n : ℕ) → n ≤ AMOUNT_LIMIT → nat_le n AMOUNT_LIMIT ≡ true
amount_passes n le = grind (arith, nat_tests)

pub amount-of : (n : ℕ) → n ≤ AMOUNT_LIMIT → as_amount (whole n) ≡ Ok n
unfolding as_amount
amount-of n le = fits (nat_le n AMOUNT_LIMIT) n (amount_passes n le)

named-is : (d : Data) (test : List ℕ → Bool) (s : List ℕ) → (as_text d >>= λ x. value_if (test x) x) ≡ Ok s → d ≡ string s
named-is d test s e =
    let first = given (as_text d) _ s e in
    let both = passed (test first.value) first.value s first.after in
    text-is d first.value first.was ∙ ap string both.1

pub token-is : (d : Data) (s : List ℕ) → as_token d ≡ Ok s → d ≡ string s
unfolding as_token
token-is d s e = named-is d is_token_name s e

pub token-of : (s : List ℕ) → IsTrue (is_token_name s) → as_token (string s) ≡ Ok s
unfolding as_token
token-of s h = fits (is_token_name s) s h

pub pool-is : (d : Data) (s : List ℕ) → as_pool d ≡ Ok s → d ≡ string s
unfolding as_pool
pool-is d s e = named-is d is_pool_name s e

pub pool-of : (s : List ℕ) → IsTrue (is_pool_name s) → as_pool (string s) ≡ Ok s
unfolding as_pool
pool-of s h = fits (is_pool_name s) s h

pub title-is : (d : Data) (s : List ℕ) → as_title d ≡ Ok s → d ≡ string (codes "amm-split-certificate")
unfolding as_title
title-is d s e =
    let first = given (as_text d) _ s e in
    let both = passed (bytes_eq first.value (codes "amm-split-certificate")) first.value s first.after in
    text-is d first.value first.was ∙ ap string ((bytes_eq-Decides first.value (codes "amm-split-certificate")).0 both.0)

pub title-of : as_title (string (codes "amm-split-certificate")) ≡ Ok (codes "amm-split-certificate")
unfolding as_title
title-of = refl

-- ---- wide numbers

both_true : (a b : Bool) → (a && b) ≡ true → (a ≡ true) × (b ≡ true)
both_true true b e = (refl, e)
both_true false b e = cc

some_if : (a : Bool) (n m : ℕ) → cond a (Some n) None ≡ Some m → (a ≡ true) × (n ≡ m)
some_if true n m e = (refl, cc)
some_if false n m e = cc

below : (n : ℕ) → nat_lt n (2 ^ 128) ≡ true → n < 2 ^ 128
below n e = grind (arith, nat_tests)

wide_of-is : (text : List ℕ) (n : ℕ) → wide_of text ≡ Some n → (text ≡ decimal n) × (n < 2 ^ 128)
unfolding wide_of
wide_of-is text n e =
    let v = digits_value 10 text in
    let made = some_if (nat_lt v (2 ^ 128) && bytes_eq text (decimal v)) v n e in
    let tests = both_true (nat_lt v (2 ^ 128)) (bytes_eq text (decimal v)) made.0 in
    let is : v ≡ n = made.1 in
    ((bytes_eq-Decides text (decimal v)).0 tests.1 ∙ ap decimal is, subst (λ m. m < 2 ^ 128) is (below v tests.0))

pub wide-is : (d : Data) (n : ℕ) → as_wide d ≡ Ok n → (d ≡ wide n) × (n < 2 ^ 128)
unfolding as_wide
wide-is d n e =
    let first = given (as_text d) _ n e in
    let made = wide_of-is first.value n (was_some (wide_of first.value) BadCommand n first.after) in
    (text-is d first.value first.was ∙ ap string made.0, made.1)

pub wide-of : (n : ℕ) → n < 2 ^ 128 → as_wide (wide n) ≡ Ok n
unfolding as_wide
wide-of n lt = ap (λ o. ok_or o BadCommand) (wide_of-decimal n lt)

-- ---- lists of values

pub each-is :
    {B : Type 0} (f : Data → Result B Refusal) (v : B → Data) (P : B → Type 0) → ((d : Data) (y : B) → f d ≡ Ok y → (d ≡ v y) × P y) →
    (ds : List Data) (ys : List B) → each f ds ≡ Ok ys → (ds ≡ map v ys) × AllByRecursion P ys
unfolding each
each-is {B} f v P one [] ys e = subst (λ (l : List B). ([] ≡ map v l) × AllByRecursion P l) (same_answer [] ys e) (refl, tt)
each-is {B} f v P one (d ∷ ds) ys e =
    let first = given (f d) _ ys e in
    let rest = given (each f ds) _ ys first.after in
    let here = one d first.value first.was in
    let later = each-is f v P one ds rest.value rest.was in
    subst (λ (l : List B). ((d ∷ ds) ≡ map v l) × AllByRecursion P l) (same_answer (first.value ∷ rest.value) ys rest.after) (ap₂ (λ x xs. x ∷ xs) here.0 later.0, (here.1, later.1))

pub each-of :
    {B : Type 0} (f : Data → Result B Refusal) (v : B → Data) (P : B → Type 0) → ((y : B) → P y → f (v y) ≡ Ok y) →
    (ys : List B) → AllByRecursion P ys → each f (map v ys) ≡ Ok ys
unfolding each
each-of f v P one [] all = refl
each-of f v P one (y ∷ ys) all = rw (one y all.0, each-of f v P one ys all.1) refl

-- a fact of each item, item by item
pub by_items : {B : Type 0} (P : B → Type 0) (ys : List B) → All P ys → AllByRecursion P ys
by_items P [] all = tt
by_items P (y ∷ ys) all = (all 0 y (omega arith), by_items P ys (λ k d lt. all (suc k) d (omega arith)))
