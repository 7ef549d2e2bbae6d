use Rattle.std.proofs.Common.{◌<◌, ◌≤◌, length, subst}
use Rattle.amm_model.specs.Routing.{OpenView}
use Rattle.amm_model.proofs.Problems.{target_there, tokens_few}
use Rattle.amm_model.proofs.problem.OpenProblem.target.Goals as goal

pub returns-clause-there : goal.returns-clause-there
returns-clause-there c =
    let kept = c.self.invariant in
    subst (λ (p : OpenView). c.self.inside.t_place < length p.tokens) c.self.view_is (rw kept.2 (target_there _ kept.0))

pub returns-clause-few : goal.returns-clause-few
returns-clause-few c = subst (λ (p : OpenView). length p.tokens ≤ 521) c.self.view_is (tokens_few _ c.self.invariant.0)
