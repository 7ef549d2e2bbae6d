use Rattle.std.proofs.Common.{take}
use Rattle.amm_legs.specs.Progress.{Follows}
use Rattle.amm_legs.proofs.open_legs_delivered.Given as goal

abbrev pub invariant-loop-i : goal.invariant-loop-i
invariant-loop-i l = Follows l.problem (take l.i l.legs) l.progress.held l.progress.used
