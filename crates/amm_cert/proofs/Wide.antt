-- What is printed of a wide number is read as it.
use Rattle.std.proofs.Common.{◌≡◌, ℕ, ◌^◌, ◌<◌, ◌&&◌, ◌==◌, List, [], ◌∷◌, Bool, true, false, cond, nat_lt, Some, None, decimal, refl, ap, ◌∙◌, arith, lt-ltb}
use Rattle.std.specs.Str.{bytes_eq}
use Rattle.std.specs.Str.Parse.{digits_value}
use Rattle.std.proofs.lemmas.Fmt.{decimal_is_IsNumeral_wide}
use Rattle.std.proofs.lemmas.Bool.{and_parts}
use Rattle.std.proofs.lemmas.Bool.Decides.{nat_tests}
use Rattle.amm_cert.specs.Rows.{wide_of}

bytes_eq-same : (bs : List ℕ) → bytes_eq bs bs ≡ true
bytes_eq-same [] = refl
bytes_eq-same (b ∷ bs) = grind (arith, nat_tests, bytes_eq-same bs)

pub wide_of-decimal : (n : ℕ) → n < 2 ^ 128 → wide_of (decimal n) ≡ Some n
unfolding wide_of
wide_of-decimal n h = rw ((decimal_is_IsNumeral_wide n (omega arith)).1, lt-ltb n (2 ^ 128) h, bytes_eq-same (decimal n)) refl

below_from : (m n : ℕ) → nat_lt m n ≡ true → m < n
below_from m n e = grind (arith, nat_tests)

same_from : (xs ys : List ℕ) → bytes_eq xs ys ≡ true → xs ≡ ys
same_from [] [] e = refl
same_from [] (y ∷ ys) e = cc
same_from (x ∷ xs) [] e = cc
same_from (x ∷ xs) (y ∷ ys) e =
    let p = and_parts (x == y) (bytes_eq xs ys) e in
    let head : x ≡ y = grind (arith, nat_tests, p.0) in
    let rest = same_from xs ys p.1 in
    cc

none_by : (text : List ℕ) (n : ℕ) (a b : Bool) → nat_lt n (2 ^ 128) ≡ a → bytes_eq text (decimal n) ≡ b → ((n : ℕ) → n < 2 ^ 128 → text ≡ decimal n → ⊥) → cond (a && b) (Some n) None ≡ None
none_by text n true true ea eb h = absurd (h n (below_from n (2 ^ 128) ea) (same_from text (decimal n) eb))
none_by text n true false ea eb h = refl
none_by text n false b ea eb h = refl

-- a text that no number below 2 ^ 128 is printed as
pub wide_of-none : (text : List ℕ) → ((n : ℕ) → n < 2 ^ 128 → text ≡ decimal n → ⊥) → wide_of text ≡ None
unfolding wide_of
wide_of-none text h = let n = digits_value 10 text in none_by text n (nat_lt n (2 ^ 128)) (bytes_eq text (decimal n)) refl refl h

pub wide_of-some : (text : List ℕ) (n : ℕ) → n < 2 ^ 128 → text ≡ decimal n → wide_of text ≡ Some n
wide_of-some text n h e = ap wide_of e ∙ wide_of-decimal n h
