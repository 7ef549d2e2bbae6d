use Rattle.std.proofs.Common.{◌≡◌, ◌<◌, ℕ, false, get_or}
use Rattle.std.specs.Str.{bytes_eq}
use Rattle.amm_model.specs.declared.problem.ProblemPool.{ProblemPool}
use Rattle.amm_cert.proofs.row.place_of.Given as goal

-- it is none of the pools passed
abbrev pub invariant-loop-i : goal.invariant-loop-i
invariant-loop-i l = (k : ℕ) (d : ProblemPool) → k < l.i → bytes_eq l.name (get_or l.pools k d).name ≡ false
