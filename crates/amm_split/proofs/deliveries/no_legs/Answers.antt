use Rattle.amm_split.proofs.OneOrTwo.{nothing-delivers}
use Rattle.amm_split.proofs.deliveries.no_legs.Goals as goal

pub returns-clause-delivers : goal.returns-clause-delivers
returns-clause-delivers c = rw (c.from_vec.ensures, c.new.ensures.items) (nothing-delivers c.args.problem.now c.t-sound.ensures.sound)
