use Rattle.std.proofs.Common.{◌<◌, ℕ, get_or}
use Rattle.std.specs.Prelude.{IsTrue}
use Rattle.amm_names.specs.Names.{is_token_name}
use Rattle.amm_names.specs.Pools.{is_pool_name}
use Rattle.amm_model.specs.declared.problem.Part.{Part}
use Rattle.amm_model.specs.declared.problem.ProblemPool.{ProblemPool}
use Rattle.amm_model.proofs.parts.spelled.Given as goal

abbrev pub invariant-loop-part : goal.invariant-loop-part
invariant-loop-part l = (k : ℕ) (d : Part) → k < l.part-index → IsTrue (is_token_name (get_or l.parts k d).token)

abbrev pub invariant-loop-pool : goal.invariant-loop-pool
invariant-loop-pool l = (k : ℕ) (d : ProblemPool) → k < l.pool-index → IsTrue (is_pool_name (get_or l.pools k d).name)
