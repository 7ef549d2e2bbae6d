use Rattle.std.proofs.Common.{◌≡◌, ◌∙◌, ◌≤◌, ◌+◌, arith, ap, refl, subst, length}
use Rattle.std.proofs.Math.ListN.{length-map}
use Rattle.amm_model.specs.Routing.{IsOpenProblem, OpenView, places_of}
use Rattle.amm_dual.specs.Singles.{worths_at}
use Rattle.amm_dual.proofs.Skips.{worths-after-le}
use Rattle.amm_dual.proofs.Shared.{shared-all, shared-first, shared-next}
use Rattle.amm_dual.proofs.pairs.both.Goals as goal

pub loop-i-init : goal.loop-i-init
loop-i-init c =
    let now = c.args.running.now in
    let many : length c.pools-count.result.now ≡ length now.problem.pools = ap length c.pools-count.ensures.list ∙ ap (λ (o : OpenView). length o.pools) c.problem-2.ensures.same in
    record {
      many = many;
      within = omega (arith, c.next_shared-i.ensures.within, length-map now.problem.pools (places_of now.problem.tokens), many);
      shared = shared-next now.problem now.prices c.args.changes 0 c.next_shared-i.result (record { gained = 0; lost = 0 }) c.requires.apart c.next_shared-i.ensures (shared-first now.problem now.prices c.args.changes);
    }

pub loop-i-preserved : goal.loop-i-preserved
loop-i-preserved c =
    let now = c.args.running.now in
    record {
      many = c.loop-i.invariant.many;
      within = omega (arith, c.next_shared-i-in-loop-i.ensures.within, length-map now.problem.pools (places_of now.problem.tokens), c.loop-i.invariant.many);
      shared = shared-next now.problem now.prices c.args.changes (c.loop-i.i + 1) c.next_shared-i-in-loop-i.result c.shared_at-balance.result c.requires.apart c.next_shared-i-in-loop-i.ensures c.shared_at-balance.ensures;
    }

pub overflow_sub-result : goal.overflow_sub-result
overflow_sub-result c =
    let now = c.args.running.now in
    let past : length now.problem.pools ≤ c.loop-i.i = omega (arith, c.loop-i-test.false, c.loop-i.invariant.many) in
    let all = shared-all now.problem now.prices c.args.changes c.loop-i.i c.args.one c.args.other (worths_at now.problem now.prices) c.loop-i.balance past c.requires.one c.requires.other refl c.loop-i.invariant.shared in
    omega (arith, all)

pub overflow_sub-result-2 : goal.overflow_sub-result-2
overflow_sub-result-2 c =
    let now = c.args.running.now in
    let past : length now.problem.pools ≤ c.loop-i.i = omega (arith, c.loop-i-test.false, c.loop-i.invariant.many) in
    let all = shared-all now.problem now.prices c.args.changes c.loop-i.i c.args.one c.args.other c.worths.result c.loop-i.balance past c.requires.one c.requires.other c.worths.ensures.value c.loop-i.invariant.shared in
    omega (arith, all)

pub returns-clause-value : goal.returns-clause-value
returns-clause-value c =
    let now = c.args.running.now in
    let past : length now.problem.pools ≤ c.loop-i.i = omega (arith, c.loop-i-test.false, c.loop-i.invariant.many) in
    let all = shared-all now.problem now.prices c.args.changes c.loop-i.i c.args.one c.args.other c.worths.result c.loop-i.balance past c.requires.one c.requires.other c.worths.ensures.value c.loop-i.invariant.shared in
    omega (arith, all)

pub returns-clause-below : goal.returns-clause-below
returns-clause-below c =
    let now = c.args.running.now in
    let past : length now.problem.pools ≤ c.loop-i.i = omega (arith, c.loop-i-test.false, c.loop-i.invariant.many) in
    let all = shared-all now.problem now.prices c.args.changes c.loop-i.i c.args.one c.args.other c.worths.result c.loop-i.balance past c.requires.one c.requires.other c.worths.ensures.value c.loop-i.invariant.shared in
    let sound = subst (λ (o : OpenView). IsOpenProblem o) c.problem.ensures.same c.target-few.ensures.sound in
    let le = worths-after-le now.problem now.prices c.args.changes sound c.problem.ensures.many c.requires.ranges in
    omega (arith, all, le)
