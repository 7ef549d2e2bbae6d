-- The parts between newlines, and the bytes that they come from.
use Rattle.std.proofs.Common.{◌≡◌, ◌≤◌, ◌<◌, ◌++◌, ◌∙◌, ◌∷◌, ◌⊎◌, inl, inr, ℕ, List, [], length, map, sym, ap, refl, arith, append_assoc, length-append, false}
use Rattle.std.specs.Prelude.{◌==◌}
use Rattle.std.specs.List.{flat_map, AllByRecursion}
use Rattle.std.proofs.lemmas.Bool.{ne_eqb}
use Rattle.std.proofs.lemmas.List.{append-nil}
use Rattle.std.specs.declared.option.Option.{Option}
use Rattle.amm_model.specs.Lines.{parts_of, ended_parts_of, lines_of, line_of, IsUnbroken}
use Rattle.amm_engine.specs.Service.{AreWholeLines}

-- a part and its newline
abbrev pub end_part : List ℕ → List ℕ
end_part part = part ++ 10 ∷ []

pub parts_of-part : (part more : List ℕ) → IsUnbroken part → parts_of (part ++ 10 ∷ more) ≡ part ∷ parts_of more
parts_of-part [] more h = refl
parts_of-part (byte ∷ part) more h =
    let is : (byte == 10) ≡ false = ne_eqb byte 10 h.0 in
    rw (is, parts_of-part part more h.1)

pub ended_parts_of-part : (part more : List ℕ) → IsUnbroken part → ended_parts_of (part ++ 10 ∷ more) ≡ part ∷ ended_parts_of more
ended_parts_of-part [] more h = refl
ended_parts_of-part (byte ∷ part) more h =
    let is : (byte == 10) ≡ false = ne_eqb byte 10 h.0 in
    rw (is, ended_parts_of-part part more h.1)

pub parts_of-unbroken : (part : List ℕ) → IsUnbroken part → 0 < length part → parts_of part ≡ part ∷ []
parts_of-unbroken [] h some = absurd (omega arith)
parts_of-unbroken (byte ∷ []) h some =
    let is : (byte == 10) ≡ false = ne_eqb byte 10 h.0 in
    rw is
parts_of-unbroken (byte ∷ next ∷ part) h some =
    let is : (byte == 10) ≡ false = ne_eqb byte 10 h.0 in
    rw (is, parts_of-unbroken (next ∷ part) h.1 (omega arith))

pub ended_parts_of-unbroken : (part : List ℕ) → IsUnbroken part → ended_parts_of part ≡ []
ended_parts_of-unbroken [] h = refl
ended_parts_of-unbroken (byte ∷ part) h =
    let is : (byte == 10) ≡ false = ne_eqb byte 10 h.0 in
    rw (is, ended_parts_of-unbroken part h.1)

pub parts_of-parts : (parts : List (List ℕ)) (more : List ℕ) → AllByRecursion IsUnbroken parts → parts_of (flat_map end_part parts ++ more) ≡ parts ++ parts_of more
parts_of-parts [] more h = refl
parts_of-parts (part ∷ parts) more h =
    let rest : List ℕ = flat_map end_part parts in
    ap parts_of (append_assoc (end_part part) rest more ∙ append_assoc part (10 ∷ []) (rest ++ more))
    ∙ parts_of-part part (rest ++ more) h.0 ∙ ap (λ l. part ∷ l) (parts_of-parts parts more h.1)

pub ended_parts_of-parts : (parts : List (List ℕ)) (more : List ℕ) → AllByRecursion IsUnbroken parts → ended_parts_of (flat_map end_part parts ++ more) ≡ parts ++ ended_parts_of more
ended_parts_of-parts [] more h = refl
ended_parts_of-parts (part ∷ parts) more h =
    let rest : List ℕ = flat_map end_part parts in
    ap ended_parts_of (append_assoc (end_part part) rest more ∙ append_assoc part (10 ∷ []) (rest ++ more))
    ∙ ended_parts_of-part part (rest ++ more) h.0 ∙ ap (λ l. part ∷ l) (ended_parts_of-parts parts more h.1)

pub AllByRecursion-push : (parts : List (List ℕ)) (part : List ℕ) → AllByRecursion IsUnbroken parts → IsUnbroken part → AllByRecursion IsUnbroken (parts ++ part ∷ [])
AllByRecursion-push [] part h here = (here, tt)
AllByRecursion-push (first ∷ parts) part h here = (h.0, AllByRecursion-push parts part h.1 here)

-- there are no more parts than bytes
pub length-parts : (parts : List (List ℕ)) → length parts ≤ length (flat_map end_part parts)
length-parts [] = omega arith
length-parts (part ∷ parts) =
    omega (arith, length-parts parts, length-append (end_part part) (flat_map end_part parts), length-append part (10 ∷ []))

-- parts with their newlines are whole lines
ends_whole : (parts : List (List ℕ)) → (flat_map end_part parts ≡ []) ⊎ ((body : List ℕ) × (flat_map end_part parts ≡ body ++ 10 ∷ []))
ends_whole [] = inl refl
ends_whole (part ∷ parts) = elim (ends_whole parts) [
  | inl none ↦ inr (part, ap (λ l. end_part part ++ l) none ∙ append-nil (end_part part))
  | inr more ↦ inr (end_part part ++ more.0, ap (λ l. end_part part ++ l) more.1 ∙ sym (append_assoc (end_part part) more.0 (10 ∷ [])))
]

pub whole_lines : (parts : List (List ℕ)) (left : Option (List ℕ)) (past : List ℕ) → AreWholeLines (flat_map end_part parts) left past
whole_lines parts left past = elim (ends_whole parts) [ inl none ↦ inl none | inr more ↦ inr (inl more) ]

-- the lines of parts with their newlines
pub lines_of-parts : (parts : List (List ℕ)) → AllByRecursion IsUnbroken parts → lines_of (flat_map end_part parts) ≡ map line_of parts
lines_of-parts parts h =
    ap (map line_of) (ap parts_of (sym (append-nil (flat_map end_part parts))) ∙ parts_of-parts parts [] h ∙ append-nil parts)
