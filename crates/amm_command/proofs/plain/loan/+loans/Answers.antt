use Rattle.std.proofs.Common.{◌≡◌, ◌<◌, ◌-◌, [], ◌∷◌, map, Ok, refl, sym, ap, ◌∙◌, arith}
use Rattle.std.proofs.lemmas.List.{map-append}
use Rattle.std.proofs.lemmas.Slice.Eq.{bytes_eq-Decides}
use Rattle.json.specs.Lex.{token, comma}
use Rattle.json.specs.Token.{begin_array}
use Rattle.amm_model.specs.CommandView.{move_of_step}
use Rattle.amm_command.proofs.LoanLemmas.{lead-none, lead-next, lead-last, step_read, steps_text, steps_fit, steps_plain, steps_shallow, none_fit}
use Rattle.amm_command.proofs.plain.loan.+loans.Goals as goal

pub some_steps-steps-init : goal.some_steps-steps-init
some_steps-steps-init t c = rw c.new-found.ensures.items (lead-none _ _ _)

pub some_steps-returns-then-close : goal.some_steps-returns-then-close
some_steps-returns-then-close t c =
    rw (c.in_ok-push.ensures.items, map-append) (lead-last _ _ _ _ _ _ _ (move_of_step c.in-Some.step) c.steps.invariant c.in-Some.ensures c.if-close.ensures.closed)

pub some_steps-steps-preserved : goal.some_steps-steps-preserved
some_steps-steps-preserved t c =
    rw (c.in_ok-push.ensures.items, map-append)
    (lead-next _ _ _ _ _ _ _ (move_of_step c.in-Some.step) c.steps.invariant c.in-Some.ensures (sym (c.if-close.ensures.kept refl) ∙ c.if-not-comma.ensures))

pub step-returns-in_ok-step : goal.step-returns-in_ok-step
step-returns-in_ok-step t c =
    let same = (bytes_eq-Decides c.in_ok-who.who.now c.as_bytes.result.now).0 (sym c.if-eq.ensures) ∙ c.as_bytes.ensures.value in
    step_read c.args.loans c.args.actor.now c.in_ok-who.who.now c.in_ok-word.word.now c.in_ok-kind.kind _ _ _ _ _ (move_of_step c.in_ok-step.step)
    c.if-not-open.ensures c.in_ok-word.ensures c.in_ok-kind.ensures c.in_ok-who.ensures same c.as_bytes.ensures.user c.in_ok-step.ensures

pub steps-returns-then-close-clause-fits : goal.steps-returns-then-close-clause-fits
steps-returns-then-close-clause-fits t c = rw c.new.ensures.items (none_fit c.args.loans c.args.actor.now (omega arith))

pub steps-returns-clause-text : goal.steps-returns-clause-text
steps-returns-clause-text t c =
    c.if-not-comma.ensures
    ∙ ap (λ s. comma ∷ s) (c.if-not-open.ensures ∙ ap (λ s. token begin_array ∷ s) (sym (c.if-close.ensures.kept refl)) ∙ steps_text (c.args.loans - 1) c.args.actor.now _ _ (map move_of_step c.in_ok-found.found.items) c.in_ok-found.ensures)

pub steps-returns-clause-fits : goal.steps-returns-clause-fits
steps-returns-clause-fits t c = steps_fit c.args.loans c.args.actor.now (map move_of_step c.in_ok-found.found.items) (omega arith) c.in_ok-found.ensures.steps

pub steps-returns-clause-plain : goal.steps-returns-clause-plain
steps-returns-clause-plain t c = steps_plain (c.args.loans - 1) c.args.actor.now (map move_of_step c.in_ok-found.found.items) c.in_ok-found.ensures.steps

pub steps-returns-clause-shallow : goal.steps-returns-clause-shallow
steps-returns-clause-shallow t c = steps_shallow c.args.loans c.args.actor.now (map move_of_step c.in_ok-found.found.items) (omega arith) c.in_ok-found.ensures.steps
