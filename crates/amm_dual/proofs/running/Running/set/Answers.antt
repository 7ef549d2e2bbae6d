use Rattle.std.proofs.Common.{◌≡◌, ◌∙◌, ◌<◌, arith, refl, ap, subst, sym, map, set, length, List, ℕ}
use Rattle.std.specs.Prelude.{sum_by}
use Rattle.amm_model.specs.Bound.{pool_worth}
use Rattle.amm_model.specs.Routing.{OpenView, IsOpenProblem, ArePrices, places_of, no_pool}
use Rattle.std.proofs.lemmas.List.{get_or_read_under}
use Rattle.amm_dual.specs.Nexts.{AreNexts}
use Rattle.amm_dual.specs.Running.{RunningView}
use Rattle.amm_dual.proofs.Worths.{mixed-first, mixed-next, mixed-all, inside-after, worth-at, kept-at}
use Rattle.amm_dual.proofs.running.Running.set.Goals as goal

pub loop-i-init : goal.loop-i-init
loop-i-init c =
    let now = c.args.self.now in
    let view = c.self.view_is in
    record {
      prices = ap (λ (v : RunningView). set v.prices c.args.token c.args.price) view;
      problem = ap (λ (v : RunningView). v.problem) view;
      nexts = subst (λ (v : RunningView). AreNexts v.problem c.self.inside.nexts.items) view c.self.invariant.6;
      mixed = mixed-first now.problem.tokens now.prices (set now.prices c.args.token c.args.price) now.problem.pools c.self.inside.worths.items
          (c.self.invariant.3 ∙ ap (λ (v : RunningView). map (pool_worth v.problem.tokens v.prices) v.problem.pools) view);
    }

pub invariant_of-self : goal.invariant_of-self
invariant_of-self c =
    let now = c.args.self.now in
    let view = c.self.view_is in
    let prices = c.loop-i.self-inside.prices.items in
    let pools-are = c.pools-pools.ensures.list ∙ ap (λ (v : RunningView). v.problem.pools) view in
    let same = ap (λ (v : RunningView). v.problem) view ∙ sym c.loop-i.invariant.problem in
    let inside = inside-after c.loop-i.self-inside.problem.now now.problem prices now.prices c.loop-i.self-inside.worths.items c.args.token c.args.price
    c.loop-i.invariant.problem c.loop-i.invariant.prices
    (subst (λ (v : RunningView). IsOpenProblem v.problem) view c.self.invariant.0)
    (subst (λ (v : RunningView). ArePrices v.prices) view c.self.invariant.1)
    (subst (λ (v : RunningView). length v.prices ≡ length v.problem.tokens) view c.self.invariant.2)
    c.requires.price
    (mixed-all now.problem.tokens now.prices (set now.prices c.args.token c.args.price) now.problem.pools c.loop-i.i c.loop-i.self-inside.worths.items
    (omega (arith, ap length pools-are)) c.loop-i.invariant.mixed) in (
      inside.0,
      inside.1,
      inside.2,
      inside.3,
      c.total_of-self-inside.ensures.value
          ∙ ap (λ (ps : List ℕ). sum_by (pool_worth c.self.inside.problem.now.tokens ps) c.self.inside.problem.now.pools) c.deref-2.ensures.value
          ∙ ap (λ (p : OpenView). sum_by (pool_worth p.tokens prices) p.pools) same,
      c.total_of-self-inside.ensures.below,
      subst (λ (p : OpenView). AreNexts p c.loop-i.self-inside.nexts.items) (sym c.loop-i.invariant.problem) c.loop-i.invariant.nexts,
    )

pub total_of-self-inside-requires-clause-worths : goal.total_of-self-inside-requires-clause-worths
total_of-self-inside-requires-clause-worths c =
    let now = c.args.self.now in
    let view = c.self.view_is in
    let pools-are = c.pools-pools.ensures.list ∙ ap (λ (v : RunningView). v.problem.pools) view in
    c.deref-3.ensures.value
    ∙ mixed-all now.problem.tokens now.prices (set now.prices c.args.token c.args.price) now.problem.pools c.loop-i.i c.loop-i.self-inside.worths.items
    (omega (arith, ap length pools-are)) c.loop-i.invariant.mixed
    ∙ ap (λ (ps : List ℕ). map (pool_worth now.problem.tokens ps) now.problem.pools) (sym (c.deref-2.ensures.value ∙ c.loop-i.invariant.prices))
    ∙ ap (λ (v : RunningView). map (pool_worth v.problem.tokens c.deref-2.result.now) v.problem.pools) (sym view)

pub refreshed-requires-clause-kept : goal.refreshed-requires-clause-kept
refreshed-requires-clause-kept c = λ apart0 apart1.
    let now = c.args.self.now in
    let view = c.self.view_is in
    let pools = now.problem.pools in
    let pools-are = c.pools-pools.ensures.list ∙ ap (λ (v : RunningView). v.problem.pools) view in
    let places-are = c.places-places.ensures.list ∙ ap (λ (v : RunningView). map (places_of v.problem.tokens) v.problem.pools) view in
    let below : c.loop-i.i < length pools = omega (arith, ap length pools-are) in
    let pool-is = get_or_read_under pools c.loop-i.i (length pools) c.index-pools-i.result no_pool (rw pools-are at c.index-pools-i.is) below refl in
    let inside : c.loop-i.i < length c.loop-i.self-inside.worths.items = omega (arith, c.loop-i.invariant.mixed.many) in
    let read = get_or_read_under c.loop-i.self-inside.worths.items c.loop-i.i (length c.loop-i.self-inside.worths.items) c.index.result.now 0 c.index.ensures inside refl in
    kept-at now.problem.tokens now.prices c.deref.result.now pools c.places-places.result.now c.loop-i.i c.args.token c.args.price c.index-pools-i.result c.loop-i.self-inside.worths.items c.index.result.now
    below pool-is places-are (c.deref.ensures.value ∙ c.loop-i.invariant.prices) c.loop-i.invariant.mixed read apart0 apart1

pub loop-i-preserved : goal.loop-i-preserved
loop-i-preserved c =
    let now = c.args.self.now in
    let view = c.self.view_is in
    let pools = now.problem.pools in
    let pools-are = c.pools-pools.ensures.list ∙ ap (λ (v : RunningView). v.problem.pools) view in
    let places-are = c.places-places.ensures.list ∙ ap (λ (v : RunningView). map (places_of v.problem.tokens) v.problem.pools) view in
    let below : c.loop-i.i < length pools = omega (arith, ap length pools-are) in
    let pool-is = get_or_read_under pools c.loop-i.i (length pools) c.index-pools-i.result no_pool (rw pools-are at c.index-pools-i.is) below refl in
    record {
      prices = c.loop-i.invariant.prices;
      problem = c.loop-i.invariant.problem;
      nexts = c.loop-i.invariant.nexts;
      mixed = mixed-next now.problem.tokens now.prices (set now.prices c.args.token c.args.price) pools c.loop-i.i c.loop-i.self-inside.worths.items c.refreshed.result below
          (c.refreshed.ensures ∙ worth-at now.problem.tokens (set now.prices c.args.token c.args.price) c.deref.result.now pools c.places-places.result.now c.loop-i.i c.index-pools-i.result
          below pool-is places-are (c.deref.ensures.value ∙ c.loop-i.invariant.prices))
          c.loop-i.invariant.mixed;
    }
