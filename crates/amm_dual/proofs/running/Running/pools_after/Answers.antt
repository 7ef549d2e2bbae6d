use Rattle.std.proofs.Common.{◌≤◌, ◌+◌, arith, ap, sym, subst, length, map}
use Rattle.std.proofs.Math.ListN.{length-map}
use Rattle.amm_model.specs.Routing.{ArePrices, places_of}
use Rattle.amm_dual.specs.Running.{RunningView, IsBalance, after}
use Rattle.amm_dual.specs.Nexts.{IsNextOfBoth}
use Rattle.amm_dual.proofs.Skips.{balance-first, balance-next, balance-all, worths-after-le}
use Rattle.amm_dual.proofs.running.Running.pools_after.Goals as goal

pub loop-i-init : goal.loop-i-init
loop-i-init c =
    let problem = c.self.inside.problem.now in
    let next = subst (λ (v : RunningView). IsNextOfBoth (map (places_of v.problem.tokens) v.problem.pools) c.args.changes.first.place c.args.changes.second.place 0 c.next_changed-i.result) (sym c.self.view_is)
    c.next_changed-i.ensures in
    record {
      within = omega (arith, next.within, length-map problem.pools (places_of problem.tokens));
      balance = balance-next problem c.self.inside.prices.items c.args.changes 0 c.next_changed-i.result (record { gained = 0; lost = 0 }) next (balance-first problem c.self.inside.prices.items c.args.changes);
    }

pub loop-i-preserved : goal.loop-i-preserved
loop-i-preserved c =
    let problem = c.self.inside.problem.now in
    let prices = c.self.inside.prices.items in
    let next = subst (λ (v : RunningView). IsNextOfBoth (map (places_of v.problem.tokens) v.problem.pools) c.args.changes.first.place c.args.changes.second.place (c.loop-i.i + 1) c.next_changed-i-in-loop-i.result)
    (sym c.self.view_is) c.next_changed-i-in-loop-i.ensures in
    let more = subst (λ (v : RunningView). IsBalance v.problem v.prices c.args.changes (c.loop-i.i + 1) c.balance_after-balance.result) (sym c.self.view_is) c.balance_after-balance.ensures in
    record {
      within = omega (arith, next.within, length-map problem.pools (places_of problem.tokens));
      balance = balance-next problem prices c.args.changes (c.loop-i.i + 1) c.next_changed-i-in-loop-i.result c.balance_after-balance.result next more;
    }

pub overflow_add-result : goal.overflow_add-result
overflow_add-result c = omega (arith, c.self.invariant.5, c.loop-i.invariant.balance.few_gained, c.loop-i.invariant.within, c.self.invariant.0.parts.few)

pub returns-clause-below : goal.returns-clause-below
returns-clause-below c =
    let problem = c.self.inside.problem.now in
    let prices = c.self.inside.prices.items in
    let view = c.self.view_is in
    let past : length problem.pools ≤ c.loop-i.i = omega (arith, c.loop-i-test.false, ap length c.pools-count.ensures.list) in
    let all = balance-all problem prices c.args.changes c.loop-i.i c.self.inside.total c.loop-i.balance past c.self.invariant.4 c.loop-i.invariant.balance in
    let ranges = subst (λ (v : RunningView). ArePrices (after v.prices c.args.changes)) (sym view) c.requires.ranges in
    let le = worths-after-le problem prices c.args.changes c.self.invariant.0 c.self.invariant.2 ranges in
    omega (arith, all, le)
