-- The parts of a basket are read as what they were written from, and are plain and UTF-8.
use Rattle.std.proofs.Common.{◌≡◌, zero, suc, ◌≤◌, List, [], ◌∷◌, length, map, Bool, true, ◌&&◌, nat_le, Ok, refl, arith}
use Rattle.std.specs.Prelude.{IsTrue, AllPairs}
use Rattle.std.specs.List.{All, list_all}
use Rattle.std.proofs.lemmas.Bool.Decides.{nat_tests}
use Rattle.std.proofs.lemmas.List.Elements.{All-head, All-tail}
use Rattle.serde_json.specs.View.{items_of}
use Rattle.amm_names.specs.Names.{is_token_name}
use Rattle.amm_names.specs.Pools.{is_before}
use Rattle.amm_model.specs.declared.problem.Part.{Part}
use Rattle.amm_model.specs.declared.limits.TheConstants.{PART_LIMIT}
use Rattle.amm_model.specs.Fits.{IsAmount, FitParts}
use Rattle.amm_model.specs.Json.{each}
use Rattle.amm_model.specs.Forms.{as_part, as_parts, are_rising}
use Rattle.amm_command.specs.Spelled.{IsPlain, ArePlain}
use Rattle.amm_command.specs.Rows.{part_value, parts_value}
use Rattle.amm_command.specs.Baskets.{are_parts}
use Rattle.amm_command.proofs.Lists.{items_plain}
use Rattle.amm_command.proofs.Baskets.{parts_fit}
use Rattle.amm_rows.specs.WellSpelled.{HasUtf8, ItemsHaveUtf8}
use Rattle.amm_rows.specs.Writable.{ArePartRows}
use Rattle.amm_rows.proofs.Ascii.{IsUtf8-token}
use Rattle.amm_rows.proofs.ValuesBack.{token_reads, amount_reads, amount_plain}

abbrev IsNamed : Part → Type 0
IsNamed part = IsTrue (is_token_name part.token)

abbrev HasAmount : Part → Type 0
HasAmount part = IsAmount part.amount

-- ---- their order

both_so : (b c : Bool) → b ≡ true → c ≡ true → (b && c) ≡ true
both_so b c p q = rw (p, q) refl

all_so : (test : Part → Bool) (ps : List Part) → All (λ p. IsTrue (test p)) ps → list_all test ps ≡ true
all_so test [] h = refl
all_so test (p ∷ ps) h = both_so (test p) (list_all test ps) (All-head (λ x. IsTrue (test x)) p ps h) (all_so test ps (All-tail (λ x. IsTrue (test x)) p ps h))

rising_so : (ps : List Part) → AllPairs (λ (a b : Part). IsTrue (is_before a.token b.token)) ps → are_rising ps ≡ true
rising_so [] pairs = refl
rising_so (p ∷ ps) pairs =
    let first : All (λ (later : Part). IsTrue (is_before p.token later.token)) ps = λ j d inside. pairs zero (suc j) d (omega arith) (omega arith) in
    let others : AllPairs (λ (a b : Part). IsTrue (is_before a.token b.token)) ps = λ i j d below inside. pairs (suc i) (suc j) d (omega arith) (omega arith) in
    both_so (list_all (λ (later : Part). is_before p.token later.token) ps) (are_rising ps) (all_so (λ (later : Part). is_before p.token later.token) ps first) (rising_so ps others)

parts_so : (ps : List Part) → FitParts ps → are_parts ps ≡ true
parts_so ps h =
    let least : 1 ≤ length ps = h.least in
    let most : length ps ≤ PART_LIMIT = h.most in
    let least_so : nat_le 1 (length ps) ≡ true = grind (arith, nat_tests) in
    let most_so : nat_le (length ps) PART_LIMIT ≡ true = grind (arith, nat_tests) in
    both_so (nat_le 1 (length ps) && nat_le (length ps) PART_LIMIT) (are_rising ps) (both_so (nat_le 1 (length ps)) (nat_le (length ps) PART_LIMIT) least_so most_so) (rising_so ps h.rising)

-- ---- each by itself

part_reads : (p : Part) → IsNamed p → HasAmount p → as_part (part_value p) ≡ Ok p
unfolding as_part
part_reads p name amount = rw (token_reads p.token name, amount_reads p.amount amount) refl

parts_read : (ps : List Part) → All IsNamed ps → All HasAmount ps → each as_part (map part_value ps) ≡ Ok ps
unfolding each
parts_read [] names amounts = refl
parts_read (p ∷ ps) names amounts =
    rw (part_reads p (All-head IsNamed p ps names) (All-head HasAmount p ps amounts), parts_read ps (All-tail IsNamed p ps names) (All-tail HasAmount p ps amounts)) refl

values_plain : (ps : List Part) → All HasAmount ps → ArePlain (map part_value ps)
values_plain [] h = tt
values_plain (p ∷ ps) h = ((tt, (amount_plain p.amount (All-head HasAmount p ps h), tt)), values_plain ps (All-tail HasAmount p ps h))

values_utf8 : (ps : List Part) → All IsNamed ps → ItemsHaveUtf8 (items_of (map part_value ps))
values_utf8 [] h = tt
values_utf8 (p ∷ ps) h = ((IsUtf8-token p.token (All-head IsNamed p ps h), (tt, tt)), values_utf8 ps (All-tail IsNamed p ps h))

pub record PartsBack (parts : List Part) : Type 0 where
  pub fits : as_parts (parts_value parts) ≡ Ok parts
  pub plain : IsPlain (parts_value parts)
  pub utf8 : HasUtf8 (parts_value parts)

pub parts_back : (parts : List Part) → ArePartRows parts → PartsBack parts
parts_back parts h = record {
  fits = parts_fit parts (parts_read parts h.tokens h.whole.amounts) (parts_so parts h.whole);
  plain = items_plain (map part_value parts) (values_plain parts h.whole.amounts);
  utf8 = values_utf8 parts h.tokens;
}
