use Rattle.std.proofs.Common.{◌∙◌, ◌<◌, ◌+◌, arith, ap, refl, sym, subst, length, List, ℕ, get_or}
use Rattle.std.proofs.Math.ListN.{length-map}
use Rattle.std.proofs.lemmas.List.{get_or_read_under, get_or-map}
use Rattle.amm_model.specs.Routing.{no_pool}
use Rattle.amm_model.specs.Bound.{pool_worth}
use Rattle.amm_dual.specs.Running.{RunningView, IsBalance, after}
use Rattle.amm_dual.proofs.Worths.{kept-worth-lt, worth-at}
use Rattle.amm_dual.proofs.Skips.{balance-more}
use Rattle.amm_dual.proofs.running.Running.balance_after.Goals as goal

pub worth_after-new-requires-clause-below : goal.worth_after-new-requires-clause-below
worth_after-new-requires-clause-below c =
    let problem = c.self.inside.problem.now in
    let prices = c.self.inside.prices.items in
    let worths = c.self.inside.worths.items in
    let many = ap length c.self.invariant.3 ∙ length-map problem.pools (pool_worth problem.tokens prices) in
    let same = ap (λ (v : RunningView). length v.problem.pools) c.self.view_is in
    let inside : c.args.i < length worths = omega (arith, c.requires.within, many, same) in
    let read = get_or_read_under worths c.args.i (length worths) c.index-old.result.now 0 c.index-old.ensures inside refl in
    let lt = kept-worth-lt problem prices worths c.args.i c.self.invariant.0 c.self.invariant.1 c.self.invariant.2 c.self.invariant.3 inside in
    omega arith

pub overflow_add-result-2 : goal.overflow_add-result-2
overflow_add-result-2 c =
    let problem = c.self.inside.problem.now in
    let prices = c.self.inside.prices.items in
    let worths = c.self.inside.worths.items in
    let many = ap length c.self.invariant.3 ∙ length-map problem.pools (pool_worth problem.tokens prices) in
    let same = ap (λ (v : RunningView). length v.problem.pools) c.self.view_is in
    let inside : c.args.i < length worths = omega (arith, c.requires.within, many, same) in
    let read = get_or_read_under worths c.args.i (length worths) c.index-old.result.now 0 c.index-old.ensures inside refl in
    let lt = kept-worth-lt problem prices worths c.args.i c.self.invariant.0 c.self.invariant.1 c.self.invariant.2 c.self.invariant.3 inside in
    omega (arith, c.requires.before.few_lost, c.self.invariant.0.parts.few)

pub returns : goal.returns
returns c =
    let problem = c.self.inside.problem.now in
    let prices = c.self.inside.prices.items in
    let worths = c.self.inside.worths.items in
    let many = ap length c.self.invariant.3 ∙ length-map problem.pools (pool_worth problem.tokens prices) in
    let view = c.self.view_is in
    let same = ap (λ (v : RunningView). length v.problem.pools) view in
    let below : c.args.i < length problem.pools = omega (arith, c.requires.within, same) in
    let inside : c.args.i < length worths = omega (arith, below, many) in
    let read = get_or_read_under worths c.args.i (length worths) c.index-old.result.now 0 c.index-old.ensures inside refl in
    let lt = kept-worth-lt problem prices worths c.args.i c.self.invariant.0 c.self.invariant.1 c.self.invariant.2 c.self.invariant.3 inside in
    let old-is = read ∙ ap (λ (ws : List ℕ). get_or ws c.args.i 0) c.self.invariant.3 ∙ get_or-map (pool_worth problem.tokens prices) problem.pools c.args.i no_pool 0 below in
    let pool-is = get_or_read_under problem.pools c.args.i (length problem.pools) c.index-pools-i.result no_pool (rw c.pools-pools.ensures.list at c.index-pools-i.is) below refl in
    let new-is = c.worth_after-new.ensures.value ∙ worth-at problem.tokens (after prices c.args.changes) (after c.deref.result.now c.args.changes) problem.pools c.places-places.result.now c.args.i c.index-pools-i.result
    below pool-is c.places-places.ensures.list (ap (λ (ps : List ℕ). after ps c.args.changes) c.deref.ensures.value) in
    let before = subst (λ (v : RunningView). IsBalance v.problem v.prices c.args.changes c.args.i c.args.balance) (sym view) c.requires.before in
    subst (λ (v : RunningView). IsBalance v.problem v.prices c.args.changes (c.args.i + 1) (record { gained = c.args.balance.gained + c.worth_after-new.result; lost = c.args.balance.lost + c.index-old.result.now })) view
    (balance-more problem prices c.args.changes c.args.i c.args.balance c.index-old.result.now c.worth_after-new.result below old-is new-is (omega (arith, read, lt)) c.worth_after-new.ensures.below before)
