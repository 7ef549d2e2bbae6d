use Rattle.amm_split.proofs.Taken.{Progress}
use Rattle.amm_split.proofs.spreads.spread.Given as goal

abbrev pub invariant-loop-best : goal.invariant-loop-best
invariant-loop-best l = Progress l.problem l.terms l.left l.used.items l.legs.items

abbrev pub decreases-loop-best : goal.decreases-loop-best
decreases-loop-best l = l.left
