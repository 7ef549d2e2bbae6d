use Rattle.std.proofs.Common.{◌<◌, ◌+◌, ℕ, get_or}
use Rattle.amm_model.specs.declared.problem.ProblemPool.{ProblemPool}
use Rattle.amm_model.specs.Routing.{IsBefore}
use Rattle.amm_model.proofs.parts.are_ascending.Given as goal

-- each of the pools passed is before the next
abbrev pub invariant-loop-i : goal.invariant-loop-i
invariant-loop-i l = (k : ℕ) (d : ProblemPool) → k + 1 < l.i → IsBefore (get_or l.pools k d).name (get_or l.pools (k + 1) d).name
