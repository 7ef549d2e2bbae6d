-- The compact text of a command's value reads back as the command.
use Rattle.std.proofs.Common.{◌≡◌, ℕ, ◌≤◌, ◌<◌, ◌^◌, List, [], ◌∷◌, ◌++◌, Bool, true, false, Some, Ok, nat_le, option_and_then, refl, sym, ap, ◌∙◌, arith, append-nil}
use Rattle.std.specs.Prelude.{IsTrue, ⊤}
use Rattle.std.specs.Str.{IsUtf8, is_utf8}
use Rattle.std.proofs.lemmas.Bool.Decides.{nat_tests}
use Rattle.std.proofs.lemmas.Str.{IsUtf8-append, IsUtf8-from_ascii, is_utf8-from_IsUtf8}
use Rattle.std.proofs.lemmas.Fmt.{IsAscii-decimal}
use Rattle.json.specs.Lex.{tokens}
use Rattle.json.specs.Json as json
use Rattle.json.specs.Tree as tree
use Rattle.json.proofs.Printed.Decimals.{IsNumber-decimal}
use Rattle.json.proofs.Printed.Tokens.{tokens-print}
use Rattle.json.proofs.Printed.Trees.{value-json_tokens, ArePrintable-json_tokens}
use Rattle.json.proofs.Printed.Utf8.{IsUtf8-quoted, IsUtf8-are_ascii}
use Rattle.serde_json.specs.Data.{Data, null, boolean, number, string, array, object, unsigned, negative, float, Items, no_items, item, depth}
use Rattle.serde_json.specs.Read.{read, of_json}
use Rattle.serde_json.specs.Written.{outline, items_outline, compact_text, items_text}
use Rattle.serde_json.proofs.Texts.{print-outline}
use Rattle.amm_model.specs.Json.{json_value, elements, list, whole}
use Rattle.amm_model.specs.CommandView.{CommandView}
use Rattle.amm_model.specs.Reading.{row_of, command_of, command_of_line}
use Rattle.amm_command.specs.Spelled.{IsPlain, ItemsArePlain, ArePlain, inner_depth}
use Rattle.amm_command.specs.Rows.{command_kind, command_values, row_value}
use Rattle.amm_rows.specs.WellSpelled.{HasUtf8, ItemsHaveUtf8}
use Rattle.amm_command.proofs.Lists.{elements-items_of, items_plain}
use Rattle.amm_command.proofs.Readings.{of_json-outline, depth-outline}

mutual
  numbers-outline : (d : Data) → IsPlain d → tree.HasNumbers (outline d)
  numbers-outline null h = tt
  numbers-outline (boolean b) h = tt
  numbers-outline (number (unsigned n)) h = IsNumber-decimal n h
  numbers-outline (number (negative z)) h = absurd h
  numbers-outline (number (float x)) h = absurd h
  numbers-outline (string s) h = tt
  numbers-outline (array ds) h = items_numbers-outline ds h
  numbers-outline (object ms) h = absurd h

  items_numbers-outline : (ds : Items) → ItemsArePlain ds → tree.ItemsHaveNumbers (items_outline ds)
  items_numbers-outline no_items h = tt
  items_numbers-outline (item d ds) h = (numbers-outline d h.0, items_numbers-outline ds h.1)

read-compact_text : (d : Data) → IsPlain d → depth d ≤ 127 → read (compact_text d) ≡ Some d
read-compact_text d plain shallow =
    let j : json.Json = outline d in
    let same : tokens (compact_text d) ≡ tree.json_tokens j ++ [] =
    ap tokens (sym (print-outline d)) ∙ (tokens-print (tree.json_tokens j) (ArePrintable-json_tokens j (numbers-outline d plain)) ∙ sym (append-nil (tree.json_tokens j))) in
    ap (λ ts. option_and_then of_json (option_and_then (λ p. json.if_last p.0 p.1) (json.value 127 ts))) same
    ∙ (ap (λ o. option_and_then of_json (option_and_then (λ p. json.if_last p.0 p.1) o)) (value-json_tokens j 127 [] (omega (arith, depth-outline d plain, shallow)))
    ∙ of_json-outline d plain)

mutual
  utf8-compact_text : (d : Data) → IsPlain d → HasUtf8 d → IsUtf8 (compact_text d)
  utf8-compact_text null h u = IsUtf8-are_ascii _ refl
  utf8-compact_text (boolean true) h u = IsUtf8-are_ascii _ refl
  utf8-compact_text (boolean false) h u = IsUtf8-are_ascii _ refl
  utf8-compact_text (number (unsigned n)) h u = IsUtf8-from_ascii _ (IsAscii-decimal n h)
  utf8-compact_text (number (negative z)) h u = absurd h
  utf8-compact_text (number (float x)) h u = absurd h
  utf8-compact_text (string s) h u = IsUtf8-quoted s u
  utf8-compact_text (array ds) h u = IsUtf8-append (91 ∷ []) (items_text false ds) (IsUtf8-are_ascii _ refl) (utf8-items_text false ds h u)
  utf8-compact_text (object ms) h u = absurd h

  utf8-items_text : (later : Bool) (ds : Items) → ItemsArePlain ds → ItemsHaveUtf8 ds → IsUtf8 (items_text later ds)
  utf8-items_text later no_items h u = IsUtf8-are_ascii _ refl
  utf8-items_text true (item d ds) h u = IsUtf8-append (44 ∷ []) (compact_text d ++ items_text true ds) (IsUtf8-are_ascii _ refl) (IsUtf8-append _ _ (utf8-compact_text d h.0 u.0) (utf8-items_text true ds h.1 u.1))
  utf8-items_text false (item d ds) h u = IsUtf8-append _ _ (utf8-compact_text d h.0 u.0) (utf8-items_text true ds h.1 u.1)

-- a command that its own row reads, is read from its compact text
pub written_back :
    (c : CommandView) → row_of (command_kind c) (command_values c) ≡ Ok c → ArePlain (command_values c) → inner_depth (command_values c) ≤ 126 → HasUtf8 (row_value c) →
    command_of_line (compact_text (row_value c)) ≡ Ok c
unfolding command_of_line command_of json_value
written_back c fits plain flat utf8 =
    let d = row_value c in
    let is_plain : IsPlain (row_value c) = (tt, items_plain (command_values c) plain) in
    rw (is_utf8-from_IsUtf8 (compact_text d) (utf8-compact_text d is_plain utf8), read-compact_text d is_plain (omega (arith, flat)))
    (ap (λ ds. row_of (command_kind c) ds) (elements-items_of (command_values c)) ∙ fits)
