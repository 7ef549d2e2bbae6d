use Rattle.std.proofs.Common.{arith, [], ◌<◌, length, get_or, take, refl, ap}
use Rattle.std.proofs.lemmas.Bool.{leb-true, le-leb}
use Rattle.std.proofs.lemmas.List.{get_or_read_under}
use Rattle.amm_model.specs.Routing.{no_pool, amount_given}
use Rattle.amm_model.specs.Legs.{after_legs, used_after, no_leg}
use Rattle.amm_legs.proofs.Legs.{leg_of}
use Rattle.amm_legs.proofs.Steps.{held_at, side_places}
use Rattle.amm_legs.proofs.progress.Progress.admits.Goals as goal

pub returns : goal.returns
returns c =
    let problem = c.args.problem.now in
    let pools = problem.pools in
    let leg = get_or c.args.legs.now c.args.i no_leg in
    let used = used_after [] (take c.args.i c.args.legs.now) in
    let held = after_legs pools (amount_given problem) (take c.args.i c.args.legs.now) in
    let there : leg.pool < length pools = omega (arith, ap length c.pools-pools.ensures.list) in
    let is = rw c.pools-pools.ensures.list at c.index-pools-place.is in
    let pool-is = get_or_read_under pools leg.pool (length pools) c.index-pools-place.result no_pool is there refl in
    let sides = side_places problem.tokens pools c.places-places.result.now leg c.sides-from.result.0 c.sides-from.result.1 c.places-places.ensures.list there c.sides-from.ensures.input c.sides-from.ensures.output in
    let amount = held_at problem c.pools-pools.ensures.sound _ _ _ c.requires.follows leg c.sides-from.result.0 there sides.0 in
    let unused = (c.requires.follows.marks leg.pool (omega (arith, c.pools-pools.ensures.sound.parts.few))).0 c.if-self-place.false in (
      (λ enough. leg_of pools used held leg c.index-pools-place.result pool-is there unused (c.is_paid.ensures.0 c.if-not-is_paid.false) (rw pool-is (rw amount at (leb-true _ _ enough)))),
      λ legal. le-leb _ _ (rw amount legal.within),
    )
