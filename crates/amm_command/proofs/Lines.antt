-- A line that is plainly spelled reads as its command.
use Rattle.std.proofs.Common.{◌≡◌, ℕ, ◌≤◌, List, [], ◌∷◌, ◌++◌, Option, None, Some, Ok, refl, sym, ap, ap₂, ◌∙◌, append-nil, arith, true}
use Rattle.std.specs.Prelude.{IfSome}
use Rattle.std.specs.Str.{IsUtf8, is_utf8}
use Rattle.std.proofs.lemmas.Str.{is_utf8-from_IsUtf8}
use Rattle.json.specs.Lex as lexemes
use Rattle.json.specs.Lex.{Lexeme}
use Rattle.json.specs.Print.{escape}
use Rattle.json.specs.Token as tokens
use Rattle.serde_json.specs.Data.{Data, string}
use Rattle.serde_json.specs.Read.{read}
use Rattle.serde_json.specs.View.{items_of}
use Rattle.amm_model.specs.Json.{json_value, elements, list}
use Rattle.amm_model.specs.CommandView.{CommandView}
use Rattle.amm_model.specs.Reading.{row_of, command_of_list, command_of, command_of_line}
use Rattle.amm_command.specs.Spelled.{lexemes_of, spelled, rest_spelled, ArePlain, inner_depth}
use Rattle.amm_command.specs.Rows.{command_kind, command_values, row_value}
use Rattle.amm_command.specs.declared.plain.kind.Kind.{Kind}
use Rattle.amm_command.specs.Kinds.{kind_word}
use Rattle.amm_command.specs.Taken.{CommandTaken}
use Rattle.amm_command.proofs.Words.{escape-kind}
use Rattle.amm_command.proofs.Lists.{elements-items_of, items_plain}
use Rattle.amm_command.proofs.Readings.{read_spelled}

-- the value of a line that is made of a list's parts
value_read : (bytes : List ℕ) (kind : List ℕ) (ds : List Data) → IsUtf8 bytes → lexemes_of bytes ≡ spelled (list (string kind ∷ ds)) → ArePlain ds → inner_depth ds ≤ 17 → json_value bytes ≡ Some (list (string kind ∷ ds))
unfolding json_value
value_read bytes kind ds utf8 is plain flat = rw (is_utf8-from_IsUtf8 bytes utf8) (read_spelled bytes (list (string kind ∷ ds)) (tt, items_plain ds plain) (omega (arith, flat)) is)

pub line_read :
    (bytes word : List ℕ) (kind : Kind) (a b z : List Lexeme) (c : CommandView) → IsUtf8 bytes → lexemes_of bytes ≡ lexemes.token tokens.begin_array ∷ a → (escape word ≡ word → a ≡ lexemes.token (tokens.string word) ∷ b) →
    word ≡ kind_word kind → CommandTaken (kind_word kind) (row_of (kind_word kind)) b z c → z ≡ [] → command_of_line bytes ≡ Ok c
unfolding command_of_line command_of
line_read bytes word kind a b z c utf8 opened first word_is taken end =
    let ds = command_values c in
    let k = kind_word kind in
    let word_plain : escape word ≡ word = ap escape word_is ∙ escape-kind kind ∙ sym word_is in
    let is : lexemes_of bytes ≡ spelled (list (string k ∷ ds)) =
    opened ∙ ap (λ s. lexemes.token tokens.begin_array ∷ s) (first word_plain ∙ ap₂ (λ w s. lexemes.token (tokens.string w) ∷ s) word_is (taken.text ∙ ap (λ s. rest_spelled ds ++ s) end ∙ append-nil (rest_spelled ds))) in
    rw (value_read bytes k ds utf8 is taken.plain taken.flat) (ap (λ es. row_of k es) (elements-items_of ds) ∙ taken.fits)

-- the same of a command that may have been found
pub line_read_if :
    {C : Type 0} (view : C → CommandView) (found : Option C) (bytes word : List ℕ) (kind : Kind) (a b z : List Lexeme) → IsUtf8 bytes → lexemes_of bytes ≡ lexemes.token tokens.begin_array ∷ a →
    (escape word ≡ word → a ≡ lexemes.token (tokens.string word) ∷ b) → word ≡ kind_word kind → IfSome found (λ c. CommandTaken (kind_word kind) (row_of (kind_word kind)) b z (view c)) → z ≡ [] →
    IfSome found (λ c. command_of_line bytes ≡ Ok (view c))
line_read_if view None bytes word kind a b z utf8 opened first word_is taken end = tt
line_read_if view (Some c) bytes word kind a b z utf8 opened first word_is taken end = line_read bytes word kind a b z (view c) utf8 opened first word_is taken end

pub json_value-some : (bytes : List ℕ) (d : Data) → IsUtf8 bytes → read bytes ≡ Some d → json_value bytes ≡ Some d
unfolding json_value
json_value-some bytes d utf8 is = rw (is_utf8-from_IsUtf8 bytes utf8) is
