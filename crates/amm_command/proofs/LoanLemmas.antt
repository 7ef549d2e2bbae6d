-- Steps that are plainly spelled, step by step.
use Rattle.std.proofs.Common.{◌≡◌, ℕ, ◌+◌, ◌-◌, ◌*◌, ◌<◌, ◌≤◌, List, [], ◌∷◌, ◌++◌, map, true, Ok, refl, sym, ap, ap₂, ◌∙◌, append_assoc, arith}
use Rattle.std.specs.Prelude.{IsTrue}
use Rattle.std.specs.Str.{bytes_eq}
use Rattle.std.proofs.lemmas.List.{map-append}
use Rattle.std.proofs.lemmas.Slice.Eq.{bytes_eq-Decides}
use Rattle.json.specs.Lex as lexemes
use Rattle.json.specs.Lex.{Lexeme}
use Rattle.json.specs.Token as tokens
use Rattle.serde_json.specs.Data.{Data, string, depth}
use Rattle.serde_json.specs.View.{items_of}
use Rattle.amm_model.specs.Outcome.{◌>>=◌}
use Rattle.amm_model.specs.Json.{each, elements, list}
use Rattle.amm_model.specs.CommandView.{Move, Moves, moves_of}
use Rattle.amm_model.specs.Reading.{as_step, as_steps, move_row, step_row}
use Rattle.amm_model.proofs.Each.{each-push}
use Rattle.amm_command.specs.Spelled.{spelled, first_spelled, rest_spelled, leading, IsPlain, ArePlain, inner_depth}
use Rattle.amm_command.specs.Rows.{step_value, steps_values, move_kind, move_values}
use Rattle.amm_names.specs.Names.{is_user_name}
use Rattle.json.specs.Print.{escape}
use Rattle.amm_command.specs.declared.plain.kind.StepKind.{StepKind}
use Rattle.amm_command.specs.Kinds.{step_word}
use Rattle.amm_command.specs.Taken.{MoveTaken}
use Rattle.amm_command.specs.Loans.{StepRead, Steps, StepsLead, StepsRead}
use Rattle.amm_command.proofs.Words.{escape-step}
use Rattle.amm_command.proofs.Names.{escape-user}
use Rattle.amm_command.proofs.Lists.{elements-items_of, items_plain, plain-append, depth-append, leading-push, first-leading}
use Rattle.amm_command.proofs.Steps.{as_steps-some}

pub values_of : (actor : List ℕ) (ms : List Move) → steps_values actor (moves_of ms) ≡ map (step_value actor) ms
values_of actor [] = refl
values_of actor (m ∷ ms) = ap (λ vs. step_value actor m ∷ vs) (values_of actor ms)

steps-none : (loans : ℕ) (actor : List ℕ) → Steps loans actor []
unfolding each
steps-none loans actor = record { fits = refl; plain = tt; shallow = omega arith }

steps-push : (loans : ℕ) (actor : List ℕ) (ms : List Move) (m : Move) → Steps loans actor ms → as_step (as_steps loans actor) actor (step_value actor m) ≡ Ok m → IsPlain (step_value actor m) → depth (step_value actor m) ≤ 2 * loans + 2 → Steps loans actor (ms ++ m ∷ [])
steps-push loans actor ms m h fits plain shallow = record {
  fits = rw map-append (each-push (as_step (as_steps loans actor) actor) (map (step_value actor) ms) ms (step_value actor m) m h.fits fits);
  plain = rw map-append (plain-append (map (step_value actor) ms) (step_value actor m ∷ []) h.plain (plain, tt));
  shallow = rw map-append (depth-append (map (step_value actor) ms) (step_value actor m ∷ []) (2 * loans + 2) h.shallow (omega (arith, shallow)));
}

pub lead-none : (loans : ℕ) (actor : List ℕ) (old : List Lexeme) → StepsLead loans actor old old []
lead-none loans actor old = record { text = refl; steps = steps-none loans actor }

pub lead-next : (loans : ℕ) (actor : List ℕ) (old mid late new : List Lexeme) (ms : List Move) (m : Move) → StepsLead loans actor old mid ms → StepRead loans actor mid late m → late ≡ lexemes.comma ∷ new → StepsLead loans actor old new (ms ++ m ∷ [])
lead-next loans actor old mid late new ms m h step is =
    let vs = map (step_value actor) ms in
    let d = step_value actor m in
    record {
      text = h.text ∙ ap (λ s. leading vs ++ s) (step.text ∙ ap (λ s. spelled d ++ s) is ∙ sym (append_assoc (spelled d) (lexemes.comma ∷ []) new)) ∙ sym (append_assoc (leading vs) (spelled d ++ lexemes.comma ∷ []) new)
          ∙ ap (λ s. s ++ new) (sym (leading-push vs d) ∙ ap leading (sym (map-append (step_value actor) ms (m ∷ []))));
      steps = steps-push loans actor ms m h.steps step.fits step.plain step.shallow;
    }

pub lead-last : (loans : ℕ) (actor : List ℕ) (old mid late new : List Lexeme) (ms : List Move) (m : Move) → StepsLead loans actor old mid ms → StepRead loans actor mid late m → late ≡ lexemes.token tokens.end_array ∷ new → StepsRead loans actor old new (ms ++ m ∷ [])
lead-last loans actor old mid late new ms m h step is =
    let vs = map (step_value actor) ms in
    let d = step_value actor m in
    record {
      text = h.text ∙ ap (λ s. leading vs ++ s) (step.text ∙ ap (λ s. spelled d ++ s) is ∙ sym (append_assoc (spelled d) (lexemes.token tokens.end_array ∷ []) new)) ∙ sym (append_assoc (leading vs) (spelled d ++ lexemes.token tokens.end_array ∷ []) new)
          ∙ ap (λ s. s ++ new) (sym (first-leading vs d) ∙ ap (λ ds. first_spelled (items_of ds)) (sym (map-append (step_value actor) ms (m ∷ []))));
      steps = steps-push loans actor ms m h.steps step.fits step.plain step.shallow;
    }

-- ---- a step by its parts

pub step_read :
    (loans : ℕ) (actor who word : List ℕ) (kind : StepKind) (old a b c new : List Lexeme) (m : Move) → old ≡ lexemes.token tokens.begin_array ∷ a →
    (escape word ≡ word → a ≡ lexemes.token (tokens.string word) ∷ b) → word ≡ step_word kind → (escape who ≡ who → b ≡ lexemes.comma ∷ lexemes.token (tokens.string who) ∷ c) →
    who ≡ actor → IsTrue (is_user_name actor) → MoveTaken (2 * loans + 1) actor (step_word kind) (move_row (as_steps loans actor) (step_word kind)) c new m → StepRead loans actor old new m
unfolding as_step
step_read loans actor who word kind old a b c new m opened first word_is second same user taken =
    let self : bytes_eq actor actor ≡ true = (bytes_eq-Decides actor actor).1 refl in
    let is = taken.kind_is in
    let word_plain : escape word ≡ word = ap escape word_is ∙ escape-step kind ∙ sym word_is in
    let who_plain : escape who ≡ who = ap escape same ∙ escape-user actor user ∙ sym same in
    record {
      text = opened ∙ ap (λ s. lexemes.token tokens.begin_array ∷ s) (first word_plain ∙ ap₂ (λ k s. lexemes.token (tokens.string k) ∷ s) (word_is ∙ sym is) (second who_plain ∙ ap₂ (λ w s. lexemes.comma ∷ lexemes.token (tokens.string w) ∷ s) same taken.text));
      fits = ap (λ ds. step_row (as_steps loans actor) actor ds) (ap (λ ds. string (move_kind m) ∷ string actor ∷ ds) (elements-items_of (move_values actor m))) ∙ rw (self, is) taken.fits;
      plain = (tt, (tt, items_plain (move_values actor m) taken.plain));
      shallow = omega (arith, taken.flat);
    }

-- ---- the steps of a loan

pub steps_text : (loans : ℕ) (actor : List ℕ) (old new : List Lexeme) (ms : List Move) → StepsRead loans actor old new ms → lexemes.token tokens.begin_array ∷ old ≡ spelled (list (steps_values actor (moves_of ms))) ++ new
steps_text loans actor old new ms h = rw (values_of actor ms) (ap (λ s. lexemes.token tokens.begin_array ∷ s) h.text)

pub steps_fit : (loans : ℕ) (actor : List ℕ) (ms : List Move) → 0 < loans → Steps (loans - 1) actor ms → as_steps loans actor (list (steps_values actor (moves_of ms))) ≡ Ok (moves_of ms)
steps_fit loans actor ms some h =
    as_steps-some loans actor (list (steps_values actor (moves_of ms))) some
    ∙ ap (λ ds. each (as_step (as_steps (loans - 1) actor) actor) ds >>= λ found. Ok (moves_of found)) (elements-items_of (steps_values actor (moves_of ms)) ∙ values_of actor ms)
    ∙ ap (λ r. r >>= λ found. Ok (moves_of found)) h.fits

pub steps_plain : (loans : ℕ) (actor : List ℕ) (ms : List Move) → Steps loans actor ms → IsPlain (list (steps_values actor (moves_of ms)))
steps_plain loans actor ms h = rw (values_of actor ms) (items_plain (map (step_value actor) ms) h.plain)

pub steps_shallow : (loans : ℕ) (actor : List ℕ) (ms : List Move) → 0 < loans → Steps (loans - 1) actor ms → depth (list (steps_values actor (moves_of ms))) ≤ 2 * loans + 1
steps_shallow loans actor ms some h = rw (values_of actor ms) (omega (arith, h.shallow))

pub none_fit : (loans : ℕ) (actor : List ℕ) → 0 < loans → as_steps loans actor (list (steps_values actor (moves_of []))) ≡ Ok (moves_of [])
none_fit loans actor some = steps_fit loans actor [] some (steps-none (loans - 1) actor)
