use Rattle.std.proofs.Common.{◌<◌, ◌≤◌, arith, ap, refl, sym, subst, length, map, get_or, ℕ}
use Rattle.std.proofs.Math.ListN.{length-map}
use Rattle.std.proofs.lemmas.List.{get_or_read_under}
use Rattle.amm_model.specs.Routing.{places_of}
use Rattle.amm_dual.specs.declared.nexts.Nexts.{Nexts}
use Rattle.amm_dual.specs.Running.{RunningView}
use Rattle.amm_dual.specs.Nexts.{IsNext, no_nexts}
use Rattle.amm_dual.proofs.Skips.{none-have}
use Rattle.amm_dual.proofs.running.Running.next_with.Goals as goal

pub returns-then-token-len : goal.returns-then-token-len
returns-then-token-len c =
    let problem = c.self.inside.problem.now in
    let view = c.self.view_is in
    let nexts = c.self.invariant.6 in
    let low = subst (λ (v : RunningView). c.args.i ≤ length v.problem.pools) (sym view) c.requires in
    let past : length problem.tokens ≤ c.args.token = omega (arith, c.if-token-len.true, c.len.ensures, nexts.many) in
    subst (λ (v : RunningView). IsNext (map (places_of v.problem.tokens) v.problem.pools) c.args.token c.args.i (length c.pools-count.result.now)) view
    (subst (λ (n : ℕ). IsNext (map (places_of problem.tokens) problem.pools) c.args.token c.args.i n) (sym (ap length c.pools-count.ensures.list))
    (none-have problem c.self.invariant.0 c.args.token c.args.i past low))

pub returns : goal.returns
returns c =
    let problem = c.self.inside.problem.now in
    let view = c.self.view_is in
    let nexts = c.self.invariant.6 in
    let low = subst (λ (v : RunningView). c.args.i ≤ length v.problem.pools) (sym view) c.requires in
    let within : c.args.token < length problem.tokens = omega (arith, c.if-token-len.false, c.len.ensures, nexts.many) in
    let inside : c.args.token < length c.self.inside.nexts.items = omega (arith, within, nexts.many) in
    let read = get_or_read_under c.self.inside.nexts.items c.args.token (length c.self.inside.nexts.items) c.index.result.now no_nexts c.index.ensures inside refl in
    let each = (nexts.each c.args.token within).each c.args.i (omega arith) (rw (length-map problem.pools (places_of problem.tokens)) low) in
    subst (λ (v : RunningView). IsNext (map (places_of v.problem.tokens) v.problem.pools) c.args.token c.args.i (get_or c.index.result.now.places c.args.i 0)) view
    (subst (λ (n : Nexts). IsNext (map (places_of problem.tokens) problem.pools) c.args.token c.args.i (get_or n.places c.args.i 0)) (sym read) each)
