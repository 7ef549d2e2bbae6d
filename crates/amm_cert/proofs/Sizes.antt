-- How long the text of a quote is at most. The bounds are coarse: each byte of a name counts as one
-- that is escaped, and no number is counted by its own limit.
use Rattle.std.proofs.Common.{◌≡◌, ◌⊎◌, inl, inr, ℕ, ◌+◌, ◌*◌, ◌/◌, ◌%◌, ◌<◌, ◌≤◌, ◌^◌, List, [], ◌∷◌, ◌++◌, length, map, Bool, true, false, cond, nat_le, nat_lt, decimal, get_or, subst, sym, arith}
use Rattle.std.specs.Prelude.{IsTrue, codes}
use Rattle.std.specs.Char.{digit_char}
use Rattle.std.specs.Cmp.{first_so, second_so}
use Rattle.std.specs.List.{AllByRecursion, zip}
use Rattle.std.proofs.Math.Nat.{mul-le-mul}
use Rattle.std.proofs.lemmas.Bool.Decides.{nat_tests}
use Rattle.std.proofs.lemmas.Fmt.{length-decimal-le_wide}
use Rattle.std.proofs.lemmas.List.{length-append}
use Rattle.json.specs.Print.{escape, escape_byte, escape_letter}
use Rattle.serde_json.specs.Data.{Data, string}
use Rattle.serde_json.specs.View.{items_of}
use Rattle.serde_json.specs.Written.{compact_text, items_text, comma_if}
use Rattle.amm_names.specs.Names.{Name, is_token_name, is_upper}
use Rattle.amm_names.specs.Pools.{is_pool_name, pool_token0, pool_token1, pool_fee, fee_spelling}
use Rattle.amm_names.proofs.Spelling.{fee_cases, parts_spell, parts_are_pool}
use Rattle.amm_model.specs.declared.limits.TheConstants.{CHECK_LIMIT}
use Rattle.amm_model.specs.declared.problem.ProblemPool.{ProblemPool}
use Rattle.amm_model.specs.declared.route.Leg.{Leg}
use Rattle.amm_model.specs.declared.route.Quote.{Quote}
use Rattle.amm_model.specs.Json.{list, whole, wide}
use Rattle.amm_model.specs.Legs.{leg_pool, token_in}
use Rattle.amm_model.specs.Routing.{IsProblem, no_pool, open_view}
use Rattle.amm_model.specs.Certificate.{certificate_text, pool_value, price_value, prices_value, leg_value, legs_value, IsCertifiable, IsWritable}
use Rattle.amm_model.specs.SplitAnswers.{IsSplitAnswer}
use Rattle.amm_model.proofs.Certifiable.{split_certifiable}
use Rattle.amm_model.proofs.Problems.{no_part, tokens_few}
use Rattle.amm_cert.proofs.Certified.{IsToken, token_in_is, tokens_are}
use Rattle.amm_cert.proofs.Forms.{by_items}

-- ---- strings

escape_byte_short : (x : ℕ) → length (escape_byte x) ≤ 6
unfolding escape_byte
escape_byte_short x = by (nat_lt 0 (escape_letter x)) (nat_lt x 32) (escape_letter x) (digit_char (x / 16)) (digit_char (x % 16))
  where
    by : (has_letter is_control : Bool) (letter high low : ℕ) →
        length (cond has_letter (92 ∷ letter ∷ []) (cond is_control (92 ∷ 117 ∷ 48 ∷ 48 ∷ high ∷ low ∷ []) (x ∷ []))) ≤ 6
    by true control letter high low = omega arith
    by false true letter high low = omega arith
    by false false letter high low = omega arith

escape_short : (s : List ℕ) → length (escape s) ≤ 6 * length s
escape_short [] = omega arith
escape_short (x ∷ s) = omega (arith, length-append (escape_byte x) (escape s), escape_byte_short x, escape_short s)

-- a string of at most n bytes
string_short : (n : ℕ) (s : List ℕ) → length s ≤ n → length (compact_text (string s)) ≤ 6 * n + 2
string_short n s few = omega (arith, few, escape_short s, length-append (escape s) (34 ∷ []))

-- ---- numbers

whole_short : (n : ℕ) → n < 2 ^ 64 → length (compact_text (whole n)) ≤ 20
whole_short n small = length-decimal-le_wide 20 n (omega arith) (omega (arith, small)) (omega (arith, small))

wide_short : (n : ℕ) → n < 2 ^ 128 → length (compact_text (wide n)) ≤ 236
wide_short n small = string_short 39 (decimal n) (length-decimal-le_wide 39 n (omega arith) (omega (arith, small)) (omega (arith, small)))

-- ---- names

token_length : (s : List ℕ) → IsTrue (is_token_name s) → length s ≤ 12
token_length [] name = omega arith
token_length (c ∷ cs) name = let few : nat_le (length cs) 11 ≡ true = first_so (nat_le (length cs) 11) _ (second_so (is_upper c) _ name) in grind (arith, nat_tests, few)

fee_length : (fee : ℕ) → (fee ≡ 1) ⊎ (fee ≡ 3) ⊎ (fee ≡ 10) → length (fee_spelling fee) ≤ 3
fee_length fee (inl is) = rw is (omega arith)
fee_length fee (inr (inl is)) = rw is (omega arith)
fee_length fee (inr (inr is)) = rw is (omega arith)

pool_length : (s : List ℕ) → IsTrue (is_pool_name s) → length s ≤ 28
pool_length s name =
    let parts = parts_are_pool s name in
    let t0 = pool_token0 s in
    let t1 = pool_token1 s in
    let fee = fee_spelling (pool_fee s) in
    let spelled : length (t0 ++ 47 ∷ (t1 ++ fee)) ≤ 28 =
    omega (arith, length-append t0 (47 ∷ (t1 ++ fee)), length-append t1 fee, token_length t0 parts.first, token_length t1 parts.second, fee_length (pool_fee s) (fee_cases (pool_fee s) parts.at_a_fee)) in
    subst (λ (name : List ℕ). length name ≤ 28) (sym (parts_spell s name)) spelled

token_short : (s : List ℕ) → IsTrue (is_token_name s) → length (compact_text (string s)) ≤ 74
token_short s name = string_short 12 s (token_length s name)

pool_short : (s : List ℕ) → IsTrue (is_pool_name s) → length (compact_text (string s)) ≤ 170
pool_short s name = string_short 28 s (pool_length s name)

-- ---- arrays

-- the text of each value has at most so many bytes
abbrev AreShort : List Data → List ℕ → Type 0
AreShort [] [] = Unit {0}
AreShort (d ∷ ds) (n ∷ ns) = (length (compact_text d) ≤ n) × AreShort ds ns
AreShort _ _ = ⊥

-- a comma or a bracket behind each of them
abbrev with_commas : List ℕ → ℕ
with_commas [] = 1
with_commas (n ∷ ns) = n + 1 + with_commas ns

comma_short : (later : Bool) (text : List ℕ) → length (comma_if later ++ text) ≤ length text + 1
comma_short true text = omega arith
comma_short false text = omega arith

items_short : (later : Bool) (ds : List Data) (ns : List ℕ) → AreShort ds ns → length (items_text later (items_of ds)) ≤ with_commas ns
items_short later [] [] short = omega arith
items_short later [] (n ∷ ns) short = absurd short
items_short later (d ∷ ds) [] short = absurd short
items_short later (d ∷ ds) (n ∷ ns) short =
    let rest = items_text true (items_of ds) in
    omega (arith, comma_short later (compact_text d ++ rest), length-append (compact_text d) rest, short.0, items_short true ds ns short.1)

row_short : (ds : List Data) (ns : List ℕ) → AreShort ds ns → length (compact_text (list ds)) ≤ with_commas ns + 1
row_short ds ns short = omega (arith, items_short false ds ns short)

-- rows of at most n bytes each
rows_short : {X : Type 0} (n : ℕ) (value : X → Data) (xs : List X) → AllByRecursion (λ x. length (compact_text (value x)) ≤ n) xs →
    (later : Bool) → length (items_text later (items_of (map value xs))) ≤ length xs * (n + 1) + 1
rows_short n value [] short later = omega arith
rows_short n value (x ∷ xs) short later =
    let rest = items_text true (items_of (map value xs)) in
    omega (arith, comma_short later (compact_text (value x) ++ rest), length-append (compact_text (value x)) rest, short.0, rows_short n value xs short.1 true)

list_short : {X : Type 0} (most n : ℕ) (value : X → Data) (xs : List X) → length xs ≤ most → AllByRecursion (λ x. length (compact_text (value x)) ≤ n) xs →
    length (compact_text (list (map value xs))) ≤ most * (n + 1) + 2
list_short most n value xs few short =
    let all = rows_short n value xs short false in
    let product : length xs * (n + 1) ≤ most * (n + 1) = mul-le-mul few (omega arith) in
    omega (arith, all, product)

-- ---- the parts of a certificate

pools_short : (q : Quote) → IsProblem q.problem → length (compact_text (list (map pool_value q.problem.pools))) ≤ 66050
pools_short q sound = list_short 256 257 pool_value q.problem.pools sound.parts.few (by_items (λ pool. length (compact_text (pool_value pool)) ≤ 257) q.problem.pools each)
  where
    each : (k : ℕ) (d : ProblemPool) → k < length q.problem.pools → length (compact_text (pool_value (get_or q.problem.pools k d))) ≤ 257
    each k d below =
        let pool = get_or q.problem.pools k d in
        let r = sound.parts.reserves k d below in
        let b = sound.parts.balances k d below in
        row_short (string pool.name ∷ whole pool.r0 ∷ whole pool.r1 ∷ whole pool.b0 ∷ whole pool.b1 ∷ []) (170 ∷ 20 ∷ 20 ∷ 20 ∷ 20 ∷ [])
        (pool_short pool.name (sound.spelled.each k d below), (whole_short pool.r0 (omega (arith, r.1)), (whole_short pool.r1 (omega (arith, r.3)), (whole_short pool.b0 (omega (arith, b.1)), (whole_short pool.b1 (omega (arith, b.3)), tt)))))

each_price : (tokens : List Name) (prices : List ℕ) → AllByRecursion IsToken tokens → AllByRecursion (λ (p : ℕ). (1 ≤ p) × (p < 2 ^ 40)) prices →
    AllByRecursion (λ p. length (compact_text (price_value p)) ≤ 98) (zip tokens prices)
each_price [] prices names ranges = tt
each_price (token ∷ tokens) [] names ranges = tt
each_price (token ∷ tokens) (price ∷ prices) names ranges =
    let one = row_short (string token ∷ whole price ∷ []) (74 ∷ 20 ∷ []) (token_short token names.0, (whole_short price (omega (arith, ranges.0.1)), tt)) in
    (one, each_price tokens prices names.1 ranges.1)

length-zip : (tokens : List Name) (prices : List ℕ) → length (zip tokens prices) ≤ length tokens
length-zip [] prices = omega arith
length-zip (token ∷ tokens) [] = omega arith
length-zip (token ∷ tokens) (price ∷ prices) = omega (arith, length-zip tokens prices)

prices_short : (q : Quote) → IsCertifiable q → length (compact_text (prices_value q)) ≤ 51581
prices_short q ok =
    let few = tokens_few (open_view q.problem) ok.problem in
    list_short 521 98 price_value (zip q.problem.tokens q.prices) (omega (arith, few, length-zip q.problem.tokens q.prices))
    (each_price q.problem.tokens q.prices (by_items IsToken q.problem.tokens (tokens_are q.problem ok.problem)) (by_items (λ (p : ℕ). (1 ≤ p) × (p < 2 ^ 40)) q.prices ok.prices))

legs_short : (q : Quote) → IsProblem q.problem → IsWritable q → length (compact_text (legs_value q)) ≤ 74498
legs_short q sound ok = list_short 256 290 (leg_value q.problem.pools) q.route.legs ok.few (by_items (λ leg. length (compact_text (leg_value q.problem.pools leg)) ≤ 290) q.route.legs each)
  where
    each : (k : ℕ) (d : Leg) → k < length q.route.legs → length (compact_text (leg_value q.problem.pools (get_or q.route.legs k d))) ≤ 290
    each k d below =
        let leg = get_or q.route.legs k d in
        let name = sound.spelled.each leg.pool no_pool (ok.there k d below) in
        let a = ok.amounts k d below in
        row_short (string (leg_pool q.problem.pools leg).name ∷ string (token_in q.problem.pools leg) ∷ whole leg.input ∷ whole leg.output ∷ []) (170 ∷ 74 ∷ 20 ∷ 20 ∷ [])
        (pool_short (leg_pool q.problem.pools leg).name name, (token_short (token_in q.problem.pools leg) (token_in_is q.problem.pools leg name), (whole_short leg.input (omega (arith, a.0)), (whole_short leg.output (omega (arith, a.1)), tt))))

-- ---- the whole

title_short : length (compact_text (string (codes "amm-split-certificate"))) ≤ 128
title_short = string_short 21 (codes "amm-split-certificate") (omega arith)

-- the texts of a certificate's parts, in their order
abbrev most_bytes : List ℕ
most_bytes = 128 ∷ 20 ∷ 74 ∷ 74 ∷ 20 ∷ 66050 ∷ 51581 ∷ 74498 ∷ 20 ∷ 236 ∷ []

-- the text that is written
pub written_short : (q : Quote) → IsCertifiable q → length (certificate_text q) < CHECK_LIMIT
unfolding certificate_text
written_short q ok =
    let p = q.problem in
    let sound : IsProblem p = ok.problem in
    let d : p.d < 2 ^ 64 = omega (arith, (sound.parts.amounts 0 no_part (omega arith)).1) in
    let all = row_short
    (string (codes "amm-split-certificate") ∷ whole 2 ∷ string p.s ∷ string p.t ∷ whole p.d ∷ list (map pool_value p.pools) ∷ prices_value q ∷ legs_value q ∷ whole q.delivered ∷ wide q.bound ∷ [])
    most_bytes (
      title_short,
      (
        whole_short 2 (omega arith),
        (
          token_short p.s (sound.spelled.sources 0 no_part (omega arith)),
          (
            token_short p.t sound.spelled.target,
            (
              whole_short p.d d,
              (pools_short q sound, (prices_short q ok, (legs_short q sound ok.writable, (whole_short q.delivered ok.delivered, (wide_short q.bound ok.bound, tt))))),
            ),
          ),
        ),
      ),
    ) in
    omega (arith, all)

-- the text of an answer to a split
pub answer_short : (q : Quote) → IsSplitAnswer q → length (certificate_text q) < CHECK_LIMIT
answer_short q split = written_short q (split_certifiable q split)
