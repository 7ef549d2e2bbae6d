use Rattle.std.proofs.Common.{◌<◌, ℕ, get_or}
use Rattle.amm_model.specs.declared.problem.ProblemPool.{ProblemPool}
use Rattle.amm_model.specs.Routing.{HasBalances, HasReserves}
use Rattle.amm_model.proofs.parts.are_filled.Given as goal

abbrev pub invariant-loop-pool : goal.invariant-loop-pool
invariant-loop-pool l = (k : ℕ) (d : ProblemPool) → k < l.pool-index → HasReserves (get_or l.pools k d) × HasBalances (get_or l.pools k d)
