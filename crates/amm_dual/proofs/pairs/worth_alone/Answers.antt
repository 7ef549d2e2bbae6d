use Rattle.std.proofs.Common.{◌∙◌, ap, List, ℕ, get_or}
use Rattle.std.proofs.lemmas.List.{set-set}
use Rattle.amm_model.specs.Routing.{no_pool}
use Rattle.amm_model.specs.Bound.{pool_worth}
use Rattle.amm_dual.proofs.pairs.worth_alone.Goals as goal

pub returns-clause-value : goal.returns-clause-value
returns-clause-value c =
    let now = c.args.running.now in
    c.worth_with.ensures.value
    ∙ ap (λ (ps : List ℕ). pool_worth now.problem.tokens ps (get_or now.problem.pools c.args.i no_pool)) (set-set now.prices c.args.change.place c.args.change.price c.args.change.price)
