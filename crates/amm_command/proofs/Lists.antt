-- Lists of values that are plainly spelled, value by value.
use Rattle.std.proofs.Common.{◌≡◌, ℕ, ◌≤◌, max, List, [], ◌∷◌, ◌++◌, length, refl, sym, ap, ap₂, ◌∙◌, append_assoc, arith}
use Rattle.json.specs.Lex as lexemes
use Rattle.json.specs.Lex.{Lexeme}
use Rattle.json.specs.Token as tokens
use Rattle.serde_json.specs.Data.{Data, items_depth, depth}
use Rattle.serde_json.specs.View.{items_of}
use Rattle.amm_model.specs.Json.{elements}
use Rattle.amm_command.specs.Spelled.{spelled, first_spelled, next_spelled, behind, leading, IsPlain, ItemsArePlain, ArePlain, inner_depth}

pub elements-items_of : (ds : List Data) → elements (items_of ds) ≡ ds
elements-items_of [] = refl
elements-items_of (d ∷ ds) = ap (λ es. d ∷ es) (elements-items_of ds)

pub items_plain : (ds : List Data) → ArePlain ds → ItemsArePlain (items_of ds)
items_plain [] h = tt
items_plain (d ∷ ds) h = (h.0, items_plain ds h.1)

pub plain-append : (xs ys : List Data) → ArePlain xs → ArePlain ys → ArePlain (xs ++ ys)
plain-append [] ys h k = k
plain-append (x ∷ xs) ys h k = (h.0, plain-append xs ys h.1 k)

pub depth-append : (xs ys : List Data) (most : ℕ) → inner_depth xs ≤ most → inner_depth ys ≤ most → inner_depth (xs ++ ys) ≤ most
depth-append [] ys most h k = k
depth-append (x ∷ xs) ys most h k = omega (arith, depth-append xs ys most (omega arith) k)

pub behind-append : (xs ys : List Data) → behind (xs ++ ys) ≡ behind xs ++ behind ys
behind-append [] ys = refl
behind-append (x ∷ xs) ys = ap (λ s. lexemes.comma ∷ (spelled x ++ s)) (behind-append xs ys) ∙ ap (λ s. lexemes.comma ∷ s) (sym (append_assoc (spelled x) (behind xs) (behind ys)))

pub next-behind : (ds : List Data) → next_spelled (items_of ds) ≡ behind ds ++ lexemes.token tokens.end_array ∷ []
next-behind [] = refl
next-behind (d ∷ ds) = ap (λ s. lexemes.comma ∷ (spelled d ++ s)) (next-behind ds) ∙ ap (λ s. lexemes.comma ∷ s) (sym (append_assoc (spelled d) (behind ds) (lexemes.token tokens.end_array ∷ [])))

-- one value more, before a comma
pub leading-push : (ds : List Data) (d : Data) → leading (ds ++ d ∷ []) ≡ leading ds ++ (spelled d ++ lexemes.comma ∷ [])
leading-push [] d = refl
leading-push (x ∷ xs) d = ap (λ s. spelled x ++ lexemes.comma ∷ s) (leading-push xs d) ∙ sym (append_assoc (spelled x) (lexemes.comma ∷ leading xs) (spelled d ++ lexemes.comma ∷ []))

next-first : (xs : List Data) (d : Data) → next_spelled (items_of (xs ++ d ∷ [])) ≡ lexemes.comma ∷ first_spelled (items_of (xs ++ d ∷ []))
next-first [] d = refl
next-first (x ∷ xs) d = refl

-- the last value, and the bracket
pub first-leading : (ds : List Data) (d : Data) → first_spelled (items_of (ds ++ d ∷ [])) ≡ leading ds ++ (spelled d ++ lexemes.token tokens.end_array ∷ [])
first-leading [] d = refl
first-leading (x ∷ xs) d =
    ap (λ s. spelled x ++ s) (next-first xs d ∙ ap (λ s. lexemes.comma ∷ s) (first-leading xs d))
    ∙ sym (append_assoc (spelled x) (lexemes.comma ∷ leading xs) (spelled d ++ lexemes.token tokens.end_array ∷ []))
