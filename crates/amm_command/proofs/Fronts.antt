-- The part that stands first in a text.
use Rattle.std.proofs.Common.{◌≡◌, ◌≢◌, ℕ, zero, suc, ◌+◌, ◌-◌, ◌*◌, ◌/◌, ◌%◌, ◌^◌, ◌<◌, ◌≤◌, List, [], ◌∷◌, ◌++◌, length, take, drop, get_or, Bool, true, false, ◌||◌, ◌==◌, Some, refl, sym, ap, ap₂, ◌∙◌, ◌⊎◌, inl, inr, decimal, arith, add-one}
use Rattle.std.proofs.lemmas.List.{take-append-drop, take_rest}
use Rattle.std.proofs.Math.Seq.{take-suc}
use Rattle.std.specs.Bool.{OnTrue}
use Rattle.std.specs.List.{list_all, position}
use Rattle.std.proofs.lemmas.List.Quantifiers.{position-Some}
use Rattle.std.proofs.lemmas.Bool.{eqb-true}
use Rattle.std.specs.Cmp.{first_so, second_so}
use Rattle.std.proofs.lemmas.Fmt.{decimal_digit, decimal_step}
use Rattle.json.specs.Lex.{lex, token, comma}
use Rattle.json.specs.Token as tokens
use Rattle.json.specs.Print.{escape}
use Rattle.json.specs.Word.{ends_word}
use Rattle.json.proofs.Printed.Strings.{content-escape, lex-escape}
use Rattle.json.proofs.Printed.Numbers.{lex-number}
use Rattle.json.proofs.Printed.Decimals.{IsNumber-decimal}
use Rattle.amm_command.specs.Spelled.{lexemes_of, is_blank}

string_lexed : (s r : List ℕ) → escape s ≡ s → lexemes_of (34 ∷ (s ++ 34 ∷ r)) ≡ token (tokens.string s) ∷ lexemes_of r
unfolding lex
string_lexed s r h =
    let same : s ++ 34 ∷ r ≡ escape s ++ 34 ∷ r = ap (λ t. t ++ 34 ∷ r) (sym h) in
    rw (same, content-escape s r, lex-escape s r) refl

split_at : (xs : List ℕ) (n : ℕ) (y : ℕ) → n < length xs → get_or xs n 0 ≡ y → xs ≡ take n xs ++ y ∷ drop (suc n) xs
split_at [] n y lt is = absurd (omega arith)
split_at (x ∷ xs) zero y lt is = cc
split_at (x ∷ xs) (suc n) y lt is = ap (λ t. x ∷ t) (split_at xs n y (omega arith) is)

-- a quotation mark, and the bytes up to the next one, where none of these needs an escape
pub text_at : (xs inside : List ℕ) (n : ℕ) → xs ≡ 34 ∷ inside → position (λ b. b == 34) inside ≡ Some n → escape (take n inside) ≡ take n inside →
    lexemes_of xs ≡ token (tokens.string (take n inside)) ∷ lexemes_of (take (length inside - (n + 1)) (drop (n + 1) inside))
text_at xs inside n is at same =
    let there = position-Some (λ b. b == 34) inside n 0 at in
    let quote : get_or inside n 0 ≡ 34 = eqb-true (get_or inside n 0) 34 there.1 in
    rw (is, take_rest inside (n + 1), add-one n)
    (ap (λ t. lexemes_of (34 ∷ t)) (split_at inside n 34 there.0 quote) ∙ string_lexed (take n inside) (drop (suc n) inside) same)

pub number_at : (xs : List ℕ) (n end : ℕ) → take end xs ≡ decimal n → n < 2 ^ 64 → ends_word (take (length xs - end) (drop end xs)) ≡ true →
    lexemes_of xs ≡ token (tokens.number (decimal n)) ∷ lexemes_of (take (length xs - end) (drop end xs))
number_at xs n end is small ended =
    let left = take_rest xs end in
    rw left (ap lexemes_of (sym (take-append-drop end xs) ∙ ap (λ s. s ++ drop end xs) is)
    ∙ lex-number (decimal n) (drop end xs) (IsNumber-decimal n small) (ap ends_word (sym left) ∙ ended))

-- one digit more
pub digit_more : (xs : List ℕ) (at n d : ℕ) → at < length xs → get_or xs at 0 ≡ 48 + d → d < 10 → 0 < n → n * 10 + d < 2 ^ 64 → take at xs ≡ decimal n → take (at + 1) xs ≡ decimal (n * 10 + d)
digit_more xs at n d lt is digit some small before =
    let m : ℕ = n * 10 + d in
    let tens : (n * 10 + d) / 10 ≡ n = omega arith in
    let ones : (n * 10 + d) % 10 ≡ d = omega arith in
    rw (add-one, take-suc xs at 0 lt, is, before, decimal_step (n * 10 + d) (omega arith) small, tens, ones) refl

pub digit_first : (xs : List ℕ) (d : ℕ) → 0 < length xs → get_or xs 0 0 ≡ 48 + d → d < 10 → take 1 xs ≡ decimal d
digit_first (x ∷ xs) d lt is digit = ap (λ y. y ∷ []) is ∙ sym (decimal_digit d digit)
digit_first [] d lt is digit = absurd (omega arith)

-- ---- the end of a line

blank_cases : (b : ℕ) → is_blank b ≡ true → (b ≡ 32) ⊎ (b ≡ 9) ⊎ (b ≡ 13)
blank_cases b h = by (b == 32) (b == 9) refl refl h
  where
    by : (x y : Bool) → (b == 32) ≡ x → (b == 9) ≡ y → (x || (y || (b == 13))) ≡ true → (b ≡ 32) ⊎ (b ≡ 9) ⊎ (b ≡ 13)
    by true y p q k = inl (eqb-true b 32 p)
    by false true p q k = inr (inl (eqb-true b 9 q))
    by false false p q k = inr (inr (eqb-true b 13 k))

blank_before : (b : ℕ) (bs : List ℕ) → (b ≡ 32) ⊎ (b ≡ 9) ⊎ (b ≡ 13) → lexemes_of bs ≡ [] → lexemes_of (b ∷ bs) ≡ []
unfolding lex
blank_before b bs (inl e) rest = rw e rest
blank_before b bs (inr (inl e)) rest = rw e rest
blank_before b bs (inr (inr e)) rest = rw e rest

blanks_lexed : (bs : List ℕ) → list_all is_blank bs ≡ true → lexemes_of bs ≡ []
unfolding lex
blanks_lexed [] h = refl
blanks_lexed (b ∷ bs) h = blank_before b bs (blank_cases b (first_so (is_blank b) (list_all is_blank bs) h)) (blanks_lexed bs (second_so (is_blank b) (list_all is_blank bs) h))

pub at_end : (found : Bool) (bs : List ℕ) → found ≡ list_all is_blank bs → OnTrue found (lexemes_of bs ≡ [])
at_end true bs is = blanks_lexed bs (sym is)
at_end false bs is = tt
