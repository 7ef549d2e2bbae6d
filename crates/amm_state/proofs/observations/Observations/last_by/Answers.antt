use Rattle.std.proofs.Common.{◌≡◌, [], List, Option, ap, sym, subst, ◌∙◌}
use Rattle.std.specs.List.Sorted.{IsNonDecreasingBy}
use Rattle.std.specs.Option.{unwrap_or}
use Rattle.amm_model.specs.declared.observation.Observation.{Observation}
use Rattle.amm_state.specs.declared.observations.Moment.{Moment}
use Rattle.amm_state.specs.Observations.{moments_from, moments_of, last_by}
use Rattle.amm_state.proofs.ObservationLemmas.{moments_rise, last_by-moments, last_by-nothing}
use Rattle.amm_state.proofs.observations.Observations.last_by.Goals as goal

pub last_by-requires : goal.last_by-requires
last_by-requires c =
    let found : c.in-Some.moments.now ≡ moments_of c.self.inside.rows.entries c.args.pool.now = ap (λ (o : Option (List Moment)). unwrap_or o []) c.in-Some.ensures.value in
    let told = found ∙ c.self.invariant c.args.pool.now ∙ ap (λ (os : List Observation). moments_from 1 c.args.pool.now os) c.self.view_is in
    subst (λ (ms : List Moment). IsNonDecreasingBy (λ (m : Moment). m.time) ms) (sym told) (moments_rise 1 c.args.pool.now c.args.self.now c.requires)

pub returns-in-Some : goal.returns-in-Some
returns-in-Some c =
    let found : c.in-Some.moments.now ≡ moments_of c.self.inside.rows.entries c.args.pool.now = ap (λ (o : Option (List Moment)). unwrap_or o []) c.in-Some.ensures.value in
    let told = found ∙ c.self.invariant c.args.pool.now ∙ ap (λ (os : List Observation). moments_from 1 c.args.pool.now os) c.self.view_is in
    c.last_by.ensures ∙ ap (λ (ms : List Moment). last_by c.args.latest ms) told ∙ last_by-moments 1 c.args.pool.now c.args.latest c.args.self.now

pub returns-in-None : goal.returns-in-None
returns-in-None c =
    let found : [] ≡ moments_of c.self.inside.rows.entries c.args.pool.now = ap (λ (o : Option (List Moment)). unwrap_or o []) c.in-None.ensures.value in
    let told = found ∙ c.self.invariant c.args.pool.now ∙ ap (λ (os : List Observation). moments_from 1 c.args.pool.now os) c.self.view_is in
    sym (last_by-nothing c.args.latest) ∙ ap (λ (ms : List Moment). last_by c.args.latest ms) told ∙ last_by-moments 1 c.args.pool.now c.args.latest c.args.self.now
