-- The parts of a basket that are plainly spelled, part by part.
use Rattle.std.proofs.Common.{◌≡◌, ℕ, ◌≤◌, List, [], ◌∷◌, ◌++◌, map, true, Ok, refl, sym, ap, ◌∙◌, append_assoc, arith}
use Rattle.std.proofs.lemmas.List.{map-append}
use Rattle.json.specs.Lex as lexemes
use Rattle.json.specs.Lex.{Lexeme}
use Rattle.json.specs.Token as tokens
use Rattle.serde_json.specs.Data.{Data, depth}
use Rattle.serde_json.specs.View.{items_of}
use Rattle.amm_model.specs.declared.problem.Part.{Part}
use Rattle.amm_model.specs.Outcome.{◌>>=◌}
use Rattle.amm_model.specs.Json.{each}
use Rattle.amm_model.specs.Forms.{value_if, as_part, as_parts}
use Rattle.amm_model.proofs.Each.{each-push}
use Rattle.amm_command.specs.Spelled.{spelled, first_spelled, leading, IsPlain, inner_depth}
use Rattle.amm_command.specs.Rows.{part_value, parts_value}
use Rattle.amm_command.specs.Baskets.{are_parts, Parts, PartsLead, PartsRead}
use Rattle.amm_command.proofs.Lists.{elements-items_of, items_plain, plain-append, leading-push, first-leading}

parts-none : Parts []
unfolding each
parts-none = record { fits = refl; plain = tt }

parts-push : (ps : List Part) (p : Part) → Parts ps → as_part (part_value p) ≡ Ok p → IsPlain (part_value p) → Parts (ps ++ p ∷ [])
parts-push ps p h fits plain = record {
  fits = rw map-append (each-push as_part (map part_value ps) ps (part_value p) p h.fits fits);
  plain = rw map-append (plain-append (map part_value ps) (part_value p ∷ []) h.plain (plain, tt));
}

pub lead-none : (old : List Lexeme) → PartsLead old old []
lead-none old = record { text = refl; parts = parts-none }

-- one part more, and a comma
pub lead-next :
    (old mid late new : List Lexeme) (ps : List Part) (p : Part) → PartsLead old mid ps → mid ≡ spelled (part_value p) ++ late → as_part (part_value p) ≡ Ok p → IsPlain (part_value p) →
    late ≡ lexemes.comma ∷ new → PartsLead old new (ps ++ p ∷ [])
lead-next old mid late new ps p h text fits plain is =
    let vs = map part_value ps in
    let d = part_value p in
    record {
      text = h.text ∙ ap (λ s. leading vs ++ s) (text ∙ ap (λ s. spelled d ++ s) is ∙ sym (append_assoc (spelled d) (lexemes.comma ∷ []) new)) ∙ sym (append_assoc (leading vs) (spelled d ++ lexemes.comma ∷ []) new)
          ∙ ap (λ s. s ++ new) (sym (leading-push vs d) ∙ ap leading (sym (map-append part_value ps (p ∷ []))));
      parts = parts-push ps p h.parts fits plain;
    }

-- the last part, and the bracket
pub lead-last :
    (old mid late new : List Lexeme) (ps : List Part) (p : Part) → PartsLead old mid ps → mid ≡ spelled (part_value p) ++ late → as_part (part_value p) ≡ Ok p → IsPlain (part_value p) →
    late ≡ lexemes.token tokens.end_array ∷ new → PartsRead old new (ps ++ p ∷ [])
lead-last old mid late new ps p h text fits plain is =
    let vs = map part_value ps in
    let d = part_value p in
    record {
      text = h.text ∙ ap (λ s. leading vs ++ s) (text ∙ ap (λ s. spelled d ++ s) is ∙ sym (append_assoc (spelled d) (lexemes.token tokens.end_array ∷ []) new)) ∙ sym (append_assoc (leading vs) (spelled d ++ lexemes.token tokens.end_array ∷ []) new)
          ∙ ap (λ s. s ++ new) (sym (first-leading vs d) ∙ ap (λ ds. first_spelled (items_of ds)) (sym (map-append part_value ps (p ∷ []))));
      parts = parts-push ps p h.parts fits plain;
    }

-- ---- they read as themselves, are plain, and nest no deeper than so

pub parts_fit : (ps : List Part) → each as_part (map part_value ps) ≡ Ok ps → are_parts ps ≡ true → as_parts (parts_value ps) ≡ Ok ps
unfolding as_parts
parts_fit ps fits test =
    ap (λ ds. each as_part ds >>= λ found. value_if (are_parts found) found) (elements-items_of (map part_value ps))
    ∙ ap (λ r. r >>= λ found. value_if (are_parts found) found) fits
    ∙ ap (λ b. value_if b ps) test

inner_flat : (ps : List Part) → inner_depth (map part_value ps) ≤ 1
inner_flat [] = omega arith
inner_flat (p ∷ ps) = omega (arith, inner_flat ps)

pub parts_flat : (ps : List Part) → depth (parts_value ps) ≤ 2
parts_flat ps = omega (arith, inner_flat ps)
