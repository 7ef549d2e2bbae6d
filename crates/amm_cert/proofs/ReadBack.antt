-- The compact text of a plain value reads back as the value.
use Rattle.std.proofs.Common.{◌≡◌, ℕ, ◌≤◌, max, List, [], ◌∷◌, ◌++◌, Bool, true, false, Some, option_map, option_and_then, refl, sym, ap, ap₂, ◌∙◌, arith, append-nil}
use Rattle.json.specs.Lex.{tokens}
use Rattle.json.specs.Json as json
use Rattle.json.specs.Tree as tree
use Rattle.json.proofs.Printed.Decimals.{IsNumber-decimal}
use Rattle.json.proofs.Printed.Tokens.{tokens-print}
use Rattle.json.proofs.Printed.Trees.{value-json_tokens, ArePrintable-json_tokens}
use Rattle.json.proofs.Printed.Utf8.{IsUtf8-quoted, IsUtf8-are_ascii}
use Rattle.serde_json.specs.Data.{Data, null, boolean, number, string, array, object, unsigned, negative, float, Items, no_items, item, depth, items_depth}
use Rattle.serde_json.specs.Read.{read, of_json, of_items}
use Rattle.serde_json.specs.Written.{outline, items_outline, compact_text, items_text}
use Rattle.std.specs.Str.{IsUtf8}
use Rattle.std.proofs.lemmas.Str.{IsUtf8-append, IsUtf8-from_ascii, is_utf8-from_IsUtf8}
use Rattle.std.proofs.lemmas.Fmt.{IsAscii-decimal}
use Rattle.amm_model.specs.Json.{json_value}
use Rattle.serde_json.proofs.Numbers.{number_of-decimal}
use Rattle.serde_json.proofs.Texts.{print-outline}
use Rattle.amm_cert.proofs.Plain.{IsPlain, ArePlain}

pub json_value-some : (bytes : List ℕ) (d : Data) → IsUtf8 bytes → read bytes ≡ Some d → json_value bytes ≡ Some d
unfolding json_value
json_value-some bytes d u h = rw (is_utf8-from_IsUtf8 bytes u) h

mutual
  of_json-outline : (d : Data) → IsPlain d → of_json (outline d) ≡ Some d
  of_json-outline null h = refl
  of_json-outline (boolean b) h = refl
  of_json-outline (number (unsigned n)) h = ap (option_map number) (number_of-decimal n h)
  of_json-outline (number (negative z)) h = absurd h
  of_json-outline (number (float x)) h = absurd h
  of_json-outline (string s) h = refl
  of_json-outline (array ds) h = ap (option_map array) (of_items-outline ds h)
  of_json-outline (object ms) h = absurd h

  of_items-outline : (ds : Items) → ArePlain ds → of_items (items_outline ds) ≡ Some ds
  of_items-outline no_items h = refl
  of_items-outline (item d ds) h = rw (of_json-outline d h.0, of_items-outline ds h.1) refl

mutual
  numbers-outline : (d : Data) → IsPlain d → tree.HasNumbers (outline d)
  numbers-outline null h = tt
  numbers-outline (boolean b) h = tt
  numbers-outline (number (unsigned n)) h = IsNumber-decimal n h
  numbers-outline (number (negative z)) h = absurd h
  numbers-outline (number (float x)) h = absurd h
  numbers-outline (string s) h = tt
  numbers-outline (array ds) h = items_numbers-outline ds h
  numbers-outline (object ms) h = absurd h

  items_numbers-outline : (ds : Items) → ArePlain ds → tree.ItemsHaveNumbers (items_outline ds)
  items_numbers-outline no_items h = tt
  items_numbers-outline (item d ds) h = (numbers-outline d h.0, items_numbers-outline ds h.1)

mutual
  depth-outline : (d : Data) → IsPlain d → tree.depth (outline d) ≡ depth d
  depth-outline null h = refl
  depth-outline (boolean b) h = refl
  depth-outline (number (unsigned n)) h = refl
  depth-outline (number (negative z)) h = absurd h
  depth-outline (number (float x)) h = absurd h
  depth-outline (string s) h = refl
  depth-outline (array ds) h = omega (arith, items_depth-outline ds h)
  depth-outline (object ms) h = absurd h

  items_depth-outline : (ds : Items) → ArePlain ds → tree.items_depth (items_outline ds) ≡ items_depth ds
  items_depth-outline no_items h = refl
  items_depth-outline (item d ds) h = ap₂ max (depth-outline d h.0) (items_depth-outline ds h.1)

pub read-compact_text : (d : Data) → IsPlain d → depth d ≤ 127 → read (compact_text d) ≡ Some d
read-compact_text d plain shallow =
    let j : json.Json = outline d in
    let same : tokens (compact_text d) ≡ tree.json_tokens j ++ [] =
    ap tokens (sym (print-outline d)) ∙ (tokens-print (tree.json_tokens j) (ArePrintable-json_tokens j (numbers-outline d plain)) ∙ sym (append-nil (tree.json_tokens j))) in
    ap (λ ts. option_and_then of_json (option_and_then (λ p. json.if_last p.0 p.1) (json.value 127 ts))) same
    ∙ (ap (λ o. option_and_then of_json (option_and_then (λ p. json.if_last p.0 p.1) o)) (value-json_tokens j 127 [] (omega (arith, depth-outline d plain, shallow)))
    ∙ of_json-outline d plain)

-- ---- as bytes

mutual
  IsUtf8-compact_text : (d : Data) → IsPlain d → IsUtf8 (compact_text d)
  IsUtf8-compact_text null h = IsUtf8-are_ascii _ refl
  IsUtf8-compact_text (boolean true) h = IsUtf8-are_ascii _ refl
  IsUtf8-compact_text (boolean false) h = IsUtf8-are_ascii _ refl
  IsUtf8-compact_text (number (unsigned n)) h = IsUtf8-from_ascii _ (IsAscii-decimal n h)
  IsUtf8-compact_text (number (negative z)) h = absurd h
  IsUtf8-compact_text (number (float x)) h = absurd h
  IsUtf8-compact_text (string s) h = IsUtf8-quoted s h
  IsUtf8-compact_text (array ds) h = IsUtf8-append (91 ∷ []) (items_text false ds) (IsUtf8-are_ascii _ refl) (IsUtf8-items_text false ds h)
  IsUtf8-compact_text (object ms) h = absurd h

  IsUtf8-items_text : (later : Bool) (ds : Items) → ArePlain ds → IsUtf8 (items_text later ds)
  IsUtf8-items_text later no_items h = IsUtf8-are_ascii _ refl
  IsUtf8-items_text true (item d ds) h = IsUtf8-append (44 ∷ []) (compact_text d ++ items_text true ds) (IsUtf8-are_ascii _ refl) (IsUtf8-append _ _ (IsUtf8-compact_text d h.0) (IsUtf8-items_text true ds h.1))
  IsUtf8-items_text false (item d ds) h = IsUtf8-append _ _ (IsUtf8-compact_text d h.0) (IsUtf8-items_text true ds h.1)

-- what is written is the JSON text of the value
pub json_value-compact_text : (d : Data) → IsPlain d → depth d ≤ 127 → json_value (compact_text d) ≡ Some d
json_value-compact_text d plain shallow = json_value-some (compact_text d) d (IsUtf8-compact_text d plain) (read-compact_text d plain shallow)
