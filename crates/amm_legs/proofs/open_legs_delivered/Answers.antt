use Rattle.std.proofs.Common.{[]}
use Rattle.amm_model.specs.Routing.{amount_given}
use Rattle.amm_legs.proofs.Legs.{leg_at}
use Rattle.amm_legs.proofs.open_legs_delivered.Goals as goal

pub returns-then-not-take : goal.returns-then-not-take
returns-then-not-take c = λ legal.
    let wrong = c.if-not-take.ensures.next.1 (leg_at c.args.problem.now.pools [] (amount_given c.args.problem.now) c.args.legs.now c.loop-i.i c.loop-i-test.true legal) in
    cc
