use Rattle.std.proofs.Common.{List, arith, subst, sym}
use Rattle.amm_model.specs.Cycles.{IsCycle}
use Rattle.amm_model.specs.declared.route.Hop.{Hop}
use Rattle.amm_cycle.specs.Chains.{IsMost, hops_of}
use Rattle.amm_cycle.proofs.Ceilings.{within_most}
use Rattle.amm_cycle.proofs.Gifts.{given-more}
use Rattle.amm_cycle.proofs.walk.closed.Goals as goal

pub returns-then-is_within-clause-most : goal.returns-then-is_within-clause-most
returns-then-is_within-clause-most c e size =
    let least = within_most c.args.problem.now.pools (hops_of c.args.begun.now) c.args.hop c.args.powers.now.amounts _ c.requires.powers (c.is_within.ensures c.if-is_within.true) e size in
    omega (arith, least)

pub judged-requires-clause-cycle : goal.judged-requires-clause-cycle
judged-requires-clause-cycle c =
    subst (λ (hops : List Hop). IsCycle c.args.problem.now.pools c.args.problem.now.t hops) (sym c.with-longer.ensures.hops) c.requires.cycle

pub judged-requires-clause-powers : goal.judged-requires-clause-powers
judged-requires-clause-powers c =
    given-more c.args.problem.now.pools (hops_of c.args.begun.now) (hops_of c.with-longer.result) c.args.hop c.args.powers.now.amounts c.with-given.result.amounts c.requires.powers
    c.with-longer.ensures.hops c.with-given.ensures.long c.with-given.ensures.each c.with-given.ensures.below

pub returns-clause-most : goal.returns-clause-most
returns-clause-most c = subst (λ (hops : List Hop). IsMost c.args.problem.now.pools hops c.judged.result.profit) c.with-longer.ensures.hops c.judged.ensures.most
