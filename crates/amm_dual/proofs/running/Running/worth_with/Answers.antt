use Rattle.std.proofs.Common.{◌≡◌, ◌∙◌, ◌<◌, arith, ap, refl, subst, length, List, ℕ, get_or}
use Rattle.std.proofs.Math.ListN.{length-map}
use Rattle.std.proofs.lemmas.List.{get_or_read_under}
use Rattle.amm_model.specs.Routing.{no_pool}
use Rattle.amm_model.specs.Bound.{pool_worth}
use Rattle.amm_dual.specs.Running.{RunningView, after}
use Rattle.amm_dual.proofs.Worths.{kept-worth-lt, worth-at}
use Rattle.amm_dual.proofs.running.Running.worth_with.Goals as goal

pub worth_after-requires-clause-below : goal.worth_after-requires-clause-below
worth_after-requires-clause-below c =
    let problem = c.self.inside.problem.now in
    let prices = c.self.inside.prices.items in
    let worths = c.self.inside.worths.items in
    let many = ap length c.self.invariant.3 ∙ length-map problem.pools (pool_worth problem.tokens prices) in
    let same = ap (λ (v : RunningView). length v.problem.pools) c.self.view_is in
    let inside : c.args.i < length worths = omega (arith, c.requires.within, many, same) in
    let read = get_or_read_under worths c.args.i (length worths) c.index.result.now 0 c.index.ensures inside refl in
    let lt = kept-worth-lt problem prices worths c.args.i c.self.invariant.0 c.self.invariant.1 c.self.invariant.2 c.self.invariant.3 inside in
    omega arith

pub returns-clause-value : goal.returns-clause-value
returns-clause-value c =
    let problem = c.self.inside.problem.now in
    let prices = c.self.inside.prices.items in
    let view = c.self.view_is in
    let same = ap (λ (v : RunningView). length v.problem.pools) view in
    let below : c.args.i < length problem.pools = omega (arith, c.requires.within, same) in
    let pool-is = get_or_read_under problem.pools c.args.i (length problem.pools) c.index-pools-i.result no_pool (rw c.pools-pools.ensures.list at c.index-pools-i.is) below refl in
    subst (λ (v : RunningView). c.worth_after.result ≡ pool_worth v.problem.tokens (after v.prices c.args.changes) (get_or v.problem.pools c.args.i no_pool)) view
    (c.worth_after.ensures.value ∙ worth-at problem.tokens (after prices c.args.changes) (after c.deref.result.now c.args.changes) problem.pools c.places-places.result.now c.args.i c.index-pools-i.result
    below pool-is c.places-places.ensures.list (ap (λ (ps : List ℕ). after ps c.args.changes) c.deref.ensures.value))
