-- Compact JSON text has no newline.
use Rattle.std.proofs.Common.{pos, negsuc, ◌≡◌, ◌≢◌, ◌≤◌, ◌+◌, ◌/◌, ◌%◌, ◌++◌, ◌∙◌, ◌==◌, ◌||◌, ℕ, zero, suc, List, [], ◌∷◌, Bool, true, false, cond, nat_lt, refl, sym, ap, arith}
use Rattle.std.specs.Prelude.{if◌then◌else◌, flat_map}
use Rattle.std.specs.List.{AllByRecursion}
use Rattle.std.specs.Char.{digit_char}
use Rattle.std.specs.Fmt.{decimal, signed_decimal, digits, digits_onto, digit_glyph}
use Rattle.std.proofs.lemmas.Bool.{true≢false}
use Rattle.std.proofs.lemmas.Bool.Decides.{nat_tests}
use Rattle.json.specs.Print.{escape, escape_byte, escape_letter, quoted}
use Rattle.serde_json.specs.Data.{Data, Num, unsigned, negative, float, null, boolean, number, string, array, object, Items, no_items, item, Members, no_members, member}
use Rattle.serde_json.specs.Written.{compact_text, items_text, members_text, number_text}
use Rattle.amm_model.specs.Lines.{IsUnbroken}

pub no : (b : ℕ) → (b == 10) ≡ false → b ≢ 10
no b h e = absurd (true≢false (ap (λ n. n == 10) (sym e) ∙ h))

pub joined : (xs ys : List ℕ) → IsUnbroken xs → IsUnbroken ys → IsUnbroken (xs ++ ys)
joined [] ys h k = k
joined (x ∷ xs) ys h k = (h.0, joined xs ys h.1 k)

-- ---- numbers

abbrev pub AreLarge : List ℕ → Type 0
AreLarge bytes = AllByRecursion (λ b. 48 ≤ b) bytes

glyph_large : (upper : Bool) (d : ℕ) → 48 ≤ digit_glyph upper d
glyph_large upper d = by (nat_lt d 10) upper
  where
    by : (p q : Bool) → 48 ≤ (if p then 48 + d else (if q then 55 + d else 87 + d))
    by true q = omega arith
    by false true = omega arith
    by false false = omega arith

onto_large : (k base : ℕ) (upper : Bool) (n : ℕ) (acc : List ℕ) → AreLarge acc → AreLarge (digits_onto k base upper n acc)
onto_large zero base upper n acc h = h
onto_large (suc k) base upper n acc h =
    by (n / base == 0) (onto_large k base upper (n / base) (digit_glyph upper (n % base) ∷ acc) (glyph_large upper (n % base), h))
  where
    by : (p : Bool) → AreLarge (digits_onto k base upper (n / base) (digit_glyph upper (n % base) ∷ acc))
        → AreLarge (if p then digit_glyph upper (n % base) ∷ acc else digits_onto k base upper (n / base) (digit_glyph upper (n % base) ∷ acc))
    by true more = (glyph_large upper (n % base), h)
    by false more = more

pub decimal_large : (n : ℕ) → AreLarge (decimal n)
unfolding digits
decimal_large n = onto_large 64 10 false n [] tt

large_unbroken : (bytes : List ℕ) → AreLarge bytes → IsUnbroken bytes
large_unbroken [] h = tt
large_unbroken (b ∷ bs) h = ((λ e. omega (arith, h.0, e)), large_unbroken bs h.1)

-- ---- strings

digit_unbroken : (d : ℕ) → digit_char d ≢ 10
digit_unbroken d = by (nat_lt d 10)
  where
    by : (p : Bool) → cond p (48 + d) (87 + d) ≢ 10
    by true = λ e. omega (arith, e)
    by false = λ e. omega (arith, e)

-- a byte that is no newline, escaped or not
kept_unbroken : (x letter : ℕ) → x ≢ 10 → letter ≢ 10 → (p q : Bool)
    → IsUnbroken (cond p (92 ∷ letter ∷ []) (cond q (92 ∷ 117 ∷ 48 ∷ 48 ∷ digit_char (x / 16) ∷ digit_char (x % 16) ∷ []) (x ∷ [])))
kept_unbroken x letter h k true q = (no 92 refl, (k, tt))
kept_unbroken x letter h k false true = (no 92 refl, (no 117 refl, (no 48 refl, (no 48 refl, (digit_unbroken (x / 16), (digit_unbroken (x % 16), tt))))))
kept_unbroken x letter h k false false = (h, tt)

byte_unbroken : (x : ℕ) → IsUnbroken (escape_byte x)
unfolding escape_byte
byte_unbroken x = by ((x == 34) || (x == 92)) (x == 8) (x == 12) (x == 10) (x == 13) (x == 9) (λ h. grind (arith, nat_tests)) (λ h. no x h)
  where
    by : (a b c d e f : Bool) → (a ≡ true → x ≢ 10) → (d ≡ false → x ≢ 10)
        → IsUnbroken (cond (nat_lt 0 (cond a x (cond b 98 (cond c 102 (cond d 110 (cond e 114 (cond f 116 0)))))))
        (92 ∷ cond a x (cond b 98 (cond c 102 (cond d 110 (cond e 114 (cond f 116 0))))) ∷ [])
        (cond (nat_lt x 32) (92 ∷ 117 ∷ 48 ∷ 48 ∷ digit_char (x / 16) ∷ digit_char (x % 16) ∷ []) (x ∷ [])))
    by true b c d e f quote plain = kept_unbroken x x (quote refl) (quote refl) (nat_lt 0 x) (nat_lt x 32)
    by false true c d e f quote plain = (no 92 refl, (no 98 refl, tt))
    by false false true d e f quote plain = (no 92 refl, (no 102 refl, tt))
    by false false false true e f quote plain = (no 92 refl, (no 110 refl, tt))
    by false false false false true f quote plain = (no 92 refl, (no 114 refl, tt))
    by false false false false false true quote plain = (no 92 refl, (no 116 refl, tt))
    by false false false false false false quote plain = kept_unbroken x 0 (plain refl) (no 0 refl) false (nat_lt x 32)

escape_unbroken : (s : List ℕ) → IsUnbroken (escape s)
escape_unbroken [] = tt
escape_unbroken (x ∷ s) = joined (escape_byte x) (escape s) (byte_unbroken x) (escape_unbroken s)

quoted_unbroken : (s : List ℕ) → IsUnbroken (quoted s)
quoted_unbroken s = (no 34 refl, joined (escape s) (34 ∷ []) (escape_unbroken s) (no 34 refl, tt))

-- ---- values

number_unbroken : (n : Num) → IsUnbroken (number_text n)
number_unbroken (unsigned n) = large_unbroken (decimal n) (decimal_large n)
number_unbroken (negative (pos n)) = large_unbroken (decimal n) (decimal_large n)
number_unbroken (negative (negsuc n)) = (no 45 refl, large_unbroken (decimal (suc n)) (decimal_large (suc n)))
number_unbroken (float x) = tt

mutual
  pub compact_unbroken : (d : Data) → IsUnbroken (compact_text d)
  compact_unbroken null = (no 110 refl, (no 117 refl, (no 108 refl, (no 108 refl, tt))))
  compact_unbroken (boolean true) = (no 116 refl, (no 114 refl, (no 117 refl, (no 101 refl, tt))))
  compact_unbroken (boolean false) = (no 102 refl, (no 97 refl, (no 108 refl, (no 115 refl, (no 101 refl, tt)))))
  compact_unbroken (number n) = number_unbroken n
  compact_unbroken (string s) = quoted_unbroken s
  compact_unbroken (array ds) = (no 91 refl, items_unbroken false ds)
  compact_unbroken (object ms) = (no 123 refl, members_unbroken false ms)

  pub items_unbroken : (later : Bool) (ds : Items) → IsUnbroken (items_text later ds)
  items_unbroken later no_items = (no 93 refl, tt)
  items_unbroken true (item d ds) = (no 44 refl, joined (compact_text d) (items_text true ds) (compact_unbroken d) (items_unbroken true ds))
  items_unbroken false (item d ds) = joined (compact_text d) (items_text true ds) (compact_unbroken d) (items_unbroken true ds)

  members_unbroken : (later : Bool) (ms : Members) → IsUnbroken (members_text later ms)
  members_unbroken later no_members = (no 125 refl, tt)
  members_unbroken true (member k d ms) = (
    no 44 refl,
    joined (quoted k) (58 ∷ (compact_text d ++ members_text true ms)) (quoted_unbroken k)
        (no 58 refl, joined (compact_text d) (members_text true ms) (compact_unbroken d) (members_unbroken true ms)),
  )
  members_unbroken false (member k d ms) =
      joined (quoted k) (58 ∷ (compact_text d ++ members_text true ms)) (quoted_unbroken k)
      (no 58 refl, joined (compact_text d) (members_text true ms) (compact_unbroken d) (members_unbroken true ms))
