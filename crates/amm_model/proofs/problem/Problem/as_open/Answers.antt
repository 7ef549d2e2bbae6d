use Rattle.std.proofs.Common.{ap, List, ◌∙◌}
use Rattle.amm_model.specs.declared.problem.Part.{Part}
use Rattle.amm_model.specs.Routing.{open_view}
use Rattle.amm_model.proofs.problem.Problem.as_open.Goals as goal

pub returns : goal.returns
returns c =
    let kept = c.self.inside.general in
    ap (λ (l : List Part). record { parts = l; t = kept.t; tokens = kept.tokens; pools = kept.pools }) c.self.invariant ∙ ap open_view c.self.view_is
