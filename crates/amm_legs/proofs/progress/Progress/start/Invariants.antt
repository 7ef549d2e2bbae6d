use Rattle.amm_legs.proofs.Steps.{Gives}
use Rattle.amm_legs.proofs.progress.Progress.start.Given as goal

abbrev pub invariant-loop-i : goal.invariant-loop-i
invariant-loop-i l = Gives l.problem l.i l.held
