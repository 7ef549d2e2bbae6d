use Rattle.std.proofs.Common.{refl}
use Rattle.amm_bound.proofs.Law.{no_route_beats_bound}
use Rattle.amm_bound.proofs.open_bound.Goals as goal

pub returns-clause-value : goal.returns-clause-value
returns-clause-value c = rw (c.parts_value.ensures.value, c.worths.ensures.value, c.as_slice-list.ensures.list, c.target-target.ensures.place) refl

pub returns-clause-beats : goal.returns-clause-beats
returns-clause-beats c = rw (returns-clause-value c) (λ route is_route. no_route_beats_bound c.args.problem.now c.args.prices.now route c.target-target.ensures.sound c.requires (c.as_slice-list.ensures.ranges) is_route)
