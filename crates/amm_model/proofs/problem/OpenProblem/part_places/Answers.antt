use Rattle.std.proofs.Common.{◌<◌, ℕ, length, subst}
use Rattle.std.specs.Prelude.{All}
use Rattle.amm_model.specs.Routing.{OpenView}
use Rattle.amm_model.proofs.Problems.{part_places_there}
use Rattle.amm_model.proofs.problem.OpenProblem.part_places.Goals as goal

pub returns-clause-there : goal.returns-clause-there
returns-clause-there c =
    let kept = c.self.invariant in
    subst (λ (p : OpenView). All (λ (place : ℕ). place < length p.tokens) c.deref.result.now) c.self.view_is
    (rw (c.deref.ensures.value, kept.1) (part_places_there _ kept.0))
