use Rattle.std.proofs.Common.{arith, ◌<◌, ◌≤◌, length}
use Rattle.std.proofs.Math.ListN.{length-map}
use Rattle.std.proofs.lemmas.List.{take_all}
use Rattle.amm_bound.proofs.Steps.{one_more}
use Rattle.amm_bound.proofs.worths.Goals as goal

pub loop-i-preserved : goal.loop-i-preserved
loop-i-preserved c =
    let more = one_more c.args.problem.now.tokens c.args.prices.now c.args.problem.now.pools c.places-places.result.now c.loop-i.i c.index-pools-i.result c.worth_at-value.result
    (rw (← c.pools-pools.ensures.list) c.loop-i-test.true) (rw (← c.pools-pools.ensures.list) c.index-pools-i.is) c.places-places.ensures.list c.worth_at-value.ensures.value in
    record { value_is = omega arith; below = omega (arith, c.worth_at-value.ensures.below) }

pub returns-clause-value : goal.returns-clause-value
returns-clause-value c =
    let past : length c.args.problem.now.pools ≤ c.loop-i.i = rw (← c.pools-pools.ensures.list) c.loop-i-test.false in
    rw (take_all c.loop-i.i c.args.problem.now.pools past) at c.loop-i.invariant.value_is

pub worth_at-value-requires-clause-places : goal.worth_at-value-requires-clause-places
worth_at-value-requires-clause-places c =
    let inside : c.loop-i.i < length c.places-places.result.now =
    rw (c.places-places.ensures.list, length-map) (rw (← c.pools-pools.ensures.list) c.loop-i-test.true) in
    rw c.requires.many (c.places-places.ensures.there c.loop-i.i _ inside)
