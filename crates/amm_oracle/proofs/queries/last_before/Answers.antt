use Rattle.std.proofs.Common.{◌≡◌, ◌<◌, ℕ, Option, refl, ap, sym, ◌∙◌, arith}
use Rattle.std.specs.Prelude.{ok_or}
use Rattle.std.specs.Option.{option_map}
use Rattle.std.proofs.lemmas.Result.{err_from_is_err_and}
use Rattle.amm_model.specs.declared.observation.Observation.{Observation}
use Rattle.amm_model.specs.declared.fault.Refusal.TheVariants.{NoObservation}
use Rattle.amm_model.specs.Observations.{is_before}
use Rattle.amm_model.specs.Oracle.{last_from}
use Rattle.amm_oracle.proofs.Searching.{last_from-never, found_waited, found_some, found_lost}
use Rattle.amm_oracle.proofs.queries.last_before.Goals as goal

pub returns-in_default : goal.returns-in_default
returns-in_default c =
    let never : c.args.time < c.args.seconds = omega (arith, c.in_default.ensures) in
    ap (λ (o : Option (ℕ × Observation)). ok_or o NoObservation) (sym (last_from-never 1 c.args.pool.now c.args.seconds c.args.time c.args.book.now.ledger.observations never))

pub returns-in_err-observation : goal.returns-in_err-observation
returns-in_err-observation c =
    let kept = c.args.book.now.ledger.observations in
    let passes = is_before c.args.pool.now c.args.seconds c.args.time in
    let waited = found_waited c.args.pool.now c.args.seconds c.args.time c.in-Some.latest kept c.in-Some.ensures.0 (sym c.in-Some.ensures.1) in
    let number = c.in-Some-last_observation.ensures ∙ ap (λ (o : Option (ℕ × Observation)). option_map (λ found. found.0) o) (sym waited) in
    let p = err_from_is_err_and c.from_residual.result c.from_residual.ensures.1 in
    rw (p.1, p.2) (found_lost kept passes c.in-Some-last_observation.number c.in_err-observation.field-0.0 (last_from 1 passes kept) refl number c.in_err-observation.ensures)

pub returns : goal.returns
returns c =
    let kept = c.args.book.now.ledger.observations in
    let passes = is_before c.args.pool.now c.args.seconds c.args.time in
    let waited = found_waited c.args.pool.now c.args.seconds c.args.time c.in-Some.latest kept c.in-Some.ensures.0 (sym c.in-Some.ensures.1) in
    let number = c.in-Some-last_observation.ensures ∙ ap (λ (o : Option (ℕ × Observation)). option_map (λ found. found.0) o) (sym waited) in
    found_some kept passes c.in-Some-last_observation.number c.in_ok-observation.observation (last_from 1 passes kept) refl number c.in_ok-observation.ensures
