use Rattle.amm_dual.proofs.Steps.{no-first, no-second-of, one-step}
use Rattle.amm_dual.proofs.descent.changes_of.Goals as goal

pub returns-in_default : goal.returns-in_default
returns-in_default c = no-first c.args.running.now.prices c.args.step.k c.args.step.first c.args.step.second c.requires.first c.requires.second c.in_default.ensures.price

pub returns-in_default-change_of : goal.returns-in_default-change_of
returns-in_default-change_of c =
    no-second-of c.args.running.now.prices c.args.step.k c.args.step.first c.args.step.second c.in-Some-second.turn c.in-Some-second.is c.requires.second c.in_default-change_of.ensures.price

pub returns-in-None : goal.returns-in-None
returns-in-None c =
    one-step c.args.running.now.prices c.args.step.k c.args.step.first c.args.step.second c.in-Some.first c.in-None.is c.requires.first c.in-Some.ensures.ranges c.in-Some.ensures.price
