use Rattle.std.proofs.Common.{◌<◌, ◌≤◌, length, subst}
use Rattle.std.specs.Prelude.{All}
use Rattle.amm_model.specs.declared.problem.TokenPlaces.{TokenPlaces}
use Rattle.amm_model.specs.Routing.{OpenView}
use Rattle.amm_model.proofs.Problems.{places_there, tokens_few}
use Rattle.amm_model.proofs.problem.OpenProblem.places.Goals as goal

pub returns-clause-there : goal.returns-clause-there
returns-clause-there c =
    let kept = c.self.invariant in
    subst (λ (p : OpenView). All (λ (at : TokenPlaces). (at.zero < length p.tokens) × (at.one < length p.tokens)) c.deref.result.now) c.self.view_is
    (rw (c.deref.ensures.value, kept.3) (places_there _ kept.0))

pub returns-clause-few : goal.returns-clause-few
returns-clause-few c = subst (λ (p : OpenView). length p.tokens ≤ 521) c.self.view_is (tokens_few _ c.self.invariant.0)
