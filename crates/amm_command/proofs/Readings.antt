-- What is plainly spelled reads as its value.
use Rattle.std.proofs.Common.{◌≡◌, ℕ, ◌≤◌, ◌<◌, ◌+◌, ◌^◌, max, List, [], ◌∷◌, ◌++◌, Bool, true, false, Option, Some, None, option_map, option_and_then, refl, sym, ap, ap₂, ◌∙◌, arith, append-nil, append_assoc}
use Rattle.std.specs.Str.{IsUtf8}
use Rattle.json.specs.Token as tokens
use Rattle.json.specs.Lex.{Lexeme, token, comma, Place, fresh, after_value, after_comma, after_key, may_begin, begins_colon, punctuate}
use Rattle.json.specs.Json as json
use Rattle.json.specs.Tree as tree
use Rattle.json.specs.Tree.{json_tokens, items_tokens}
use Rattle.json.proofs.Printed.Trees.{value-json_tokens}
use Rattle.serde_json.specs.Data.{Data, null, boolean, number, string, array, object, unsigned, negative, float, Items, no_items, item, depth, items_depth}
use Rattle.serde_json.specs.Read.{read, of_json, of_items, number_of}
use Rattle.serde_json.specs.Written.{outline, items_outline}
use Rattle.serde_json.proofs.Numbers.{number_of-decimal}
use Rattle.amm_command.specs.Spelled.{lexemes_of, spelled, first_spelled, next_spelled, IsPlain, ItemsArePlain}

no_colon : (ds : Items) (ls : List Lexeme) → begins_colon (next_spelled ds ++ ls) ≡ false
no_colon no_items ls = refl
no_colon (item d ds) ls = refl

mutual
  unfolding punctuate

  value_tokens : (d : Data) (p : Place) (ls : List Lexeme) → IsPlain d → may_begin p ≡ true → begins_colon ls ≡ false → punctuate p (spelled d ++ ls) ≡ json_tokens (outline d) ++ punctuate after_value ls
  value_tokens d after_value ls h m b = cc
  value_tokens d after_key ls h m b = cc
  value_tokens null fresh ls h m b = refl
  value_tokens null after_comma ls h m b = refl
  value_tokens (boolean x) fresh ls h m b = refl
  value_tokens (boolean x) after_comma ls h m b = refl
  value_tokens (number n) fresh ls h m b = refl
  value_tokens (number n) after_comma ls h m b = refl
  value_tokens (string s) fresh ls h m b = rw b refl
  value_tokens (string s) after_comma ls h m b = rw b refl
  value_tokens (array ds) fresh ls h m b = ap (λ ts. tokens.begin_array ∷ ts) (first_tokens ds ls h)
  value_tokens (array ds) after_comma ls h m b = ap (λ ts. tokens.begin_array ∷ ts) (first_tokens ds ls h)
  value_tokens (object ms) p ls h m b = absurd h

  first_tokens : (ds : Items) (ls : List Lexeme) → ItemsArePlain ds → punctuate fresh (first_spelled ds ++ ls) ≡ items_tokens (items_outline ds) ++ punctuate after_value ls
  first_tokens no_items ls h = refl
  first_tokens (item d ds) ls h =
      ap (punctuate fresh) (append_assoc (spelled d) (next_spelled ds) ls)
      ∙ (value_tokens d fresh (next_spelled ds ++ ls) h.0 refl (no_colon ds ls)
      ∙ (ap (λ ts. json_tokens (outline d) ++ ts) (next_tokens ds ls h.1)
      ∙ sym (append_assoc (json_tokens (outline d)) (items_tokens (items_outline ds)) (punctuate after_value ls))))

  next_tokens : (ds : Items) (ls : List Lexeme) → ItemsArePlain ds → punctuate after_value (next_spelled ds ++ ls) ≡ items_tokens (items_outline ds) ++ punctuate after_value ls
  next_tokens no_items ls h = refl
  next_tokens (item d ds) ls h =
      ap (punctuate after_comma) (append_assoc (spelled d) (next_spelled ds) ls)
      ∙ (value_tokens d after_comma (next_spelled ds ++ ls) h.0 refl (no_colon ds ls)
      ∙ (ap (λ ts. json_tokens (outline d) ++ ts) (next_tokens ds ls h.1)
      ∙ sym (append_assoc (json_tokens (outline d)) (items_tokens (items_outline ds)) (punctuate after_value ls))))

mutual
  pub of_json-outline : (d : Data) → IsPlain d → of_json (outline d) ≡ Some d
  of_json-outline null h = refl
  of_json-outline (boolean b) h = refl
  of_json-outline (number (unsigned n)) h = ap (option_map number) (number_of-decimal n h)
  of_json-outline (number (negative z)) h = absurd h
  of_json-outline (number (float x)) h = absurd h
  of_json-outline (string s) h = refl
  of_json-outline (array ds) h = ap (option_map array) (of_items-outline ds h)
  of_json-outline (object ms) h = absurd h

  of_items-outline : (ds : Items) → ItemsArePlain ds → of_items (items_outline ds) ≡ Some ds
  of_items-outline no_items h = refl
  of_items-outline (item d ds) h = rw (of_json-outline d h.0, of_items-outline ds h.1) refl

mutual
  pub depth-outline : (d : Data) → IsPlain d → tree.depth (outline d) ≡ depth d
  depth-outline null h = refl
  depth-outline (boolean b) h = refl
  depth-outline (number n) h = refl
  depth-outline (string s) h = refl
  depth-outline (array ds) h = omega (arith, items_depth-outline ds h)
  depth-outline (object ms) h = absurd h

  items_depth-outline : (ds : Items) → ItemsArePlain ds → tree.items_depth (items_outline ds) ≡ items_depth ds
  items_depth-outline no_items h = refl
  items_depth-outline (item d ds) h = ap₂ max (depth-outline d h.0) (items_depth-outline ds h.1)

-- a text that is made of a value's parts, and of nothing else, reads as the value
pub read_spelled : (bytes : List ℕ) (d : Data) → IsPlain d → depth d ≤ 127 → lexemes_of bytes ≡ spelled d → read bytes ≡ Some d
unfolding punctuate
read_spelled bytes d plain shallow is =
    let j : json.Json = outline d in
    let same = ap (punctuate fresh) (is ∙ sym (append-nil (spelled d))) ∙ value_tokens d fresh [] plain refl refl in
    ap (λ ts. option_and_then of_json (option_and_then (λ p. json.if_last p.0 p.1) (json.value 127 ts))) same
    ∙ (ap (λ o. option_and_then of_json (option_and_then (λ p. json.if_last p.0 p.1) o)) (value-json_tokens j 127 [] (omega (arith, depth-outline d plain, shallow)))
    ∙ of_json-outline d plain)
