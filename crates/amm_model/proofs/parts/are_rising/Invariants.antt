use Rattle.std.proofs.Common.{◌<◌, ◌+◌, ℕ, get_or}
use Rattle.amm_model.specs.declared.problem.Part.{Part}
use Rattle.amm_model.specs.Routing.{IsBefore}
use Rattle.amm_model.proofs.parts.are_rising.Given as goal

-- each of the parts passed is before the next
abbrev pub invariant-loop-i : goal.invariant-loop-i
invariant-loop-i l = (k : ℕ) (d : Part) → k + 1 < l.i → IsBefore (get_or l.parts k d).token (get_or l.parts (k + 1) d).token
