use Rattle.std.proofs.Common.{◌≡◌, ◌∙◌, ◌<◌, arith, ap, refl, subst, length, List, ℕ, get_or}
use Rattle.std.proofs.Math.ListN.{length-map}
use Rattle.std.proofs.lemmas.List.{get_or_read_under, get_or-map}
use Rattle.amm_model.specs.Routing.{no_pool}
use Rattle.amm_model.specs.Bound.{pool_worth}
use Rattle.amm_dual.specs.Running.{RunningView}
use Rattle.amm_dual.proofs.Worths.{kept-worth-lt}
use Rattle.amm_dual.proofs.running.Running.worth.Goals as goal

pub returns-clause-value : goal.returns-clause-value
returns-clause-value c =
    let problem = c.self.inside.problem.now in
    let prices = c.self.inside.prices.items in
    let worths = c.self.inside.worths.items in
    let many = ap length c.self.invariant.3 ∙ length-map problem.pools (pool_worth problem.tokens prices) in
    let view = c.self.view_is in
    let same = ap (λ (v : RunningView). length v.problem.pools) view in
    let below : c.args.i < length problem.pools = omega (arith, c.requires, same) in
    let inside : c.args.i < length worths = omega (arith, below, many) in
    let read = get_or_read_under worths c.args.i (length worths) c.index.result.now 0 c.index.ensures inside refl in
    subst (λ (v : RunningView). c.index.result.now ≡ pool_worth v.problem.tokens v.prices (get_or v.problem.pools c.args.i no_pool)) view
    (read ∙ ap (λ (ws : List ℕ). get_or ws c.args.i 0) c.self.invariant.3 ∙ get_or-map (pool_worth problem.tokens prices) problem.pools c.args.i no_pool 0 below)

pub returns-clause-below : goal.returns-clause-below
returns-clause-below c =
    let problem = c.self.inside.problem.now in
    let prices = c.self.inside.prices.items in
    let worths = c.self.inside.worths.items in
    let many = ap length c.self.invariant.3 ∙ length-map problem.pools (pool_worth problem.tokens prices) in
    let same = ap (λ (v : RunningView). length v.problem.pools) c.self.view_is in
    let inside : c.args.i < length worths = omega (arith, c.requires, many, same) in
    let read = get_or_read_under worths c.args.i (length worths) c.index.result.now 0 c.index.ensures inside refl in
    let lt = kept-worth-lt problem prices worths c.args.i c.self.invariant.0 c.self.invariant.1 c.self.invariant.2 c.self.invariant.3 inside in
    omega arith
