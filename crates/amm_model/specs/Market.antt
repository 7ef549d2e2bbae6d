-- The routing problem of a ledger: its pools whose two reserves are positive.
use Rattle.std.specs.Prelude.{ℕ, ◌≡◌, ◌↔◌, ◌≤◌, List, Some, Contains}
use Rattle.amm_model.specs.declared.pair.PairRecord.{PairRecord}
use Rattle.amm_model.specs.declared.problem.Part.{Part}
use Rattle.amm_model.specs.declared.problem.ProblemPool.{ProblemPool}
use Rattle.amm_model.specs.Ledger.{Ledger, pair_of}
use Rattle.amm_model.specs.Pools.{held0, held1}
use Rattle.amm_model.specs.Routing.{OpenView, ProblemView, IsOpenProblemOf, one_part, open_view}
use Rattle.amm_names.specs.Names.{Name}

-- A pool with the reserves of its pair and what the ledger has at its name.
abbrev pub pool_at : Ledger → Name → PairRecord → ProblemPool
pool_at ledger pool pair = record { name = pool; r0 = pair.r0; r1 = pair.r1; b0 = held0 ledger pool; b1 = held1 ledger pool }

-- A pool of the ledger that a route may use: both reserves are positive.
pub record IsPoolIn (ledger : Ledger) (pool : ProblemPool) : Type 0 where
  pub pair : PairRecord
  pub there : pair_of ledger.pairs pool.name ≡ Some pair
  pub filled : (1 ≤ pair.r0) × (1 ≤ pair.r1)
  pub as_kept : pool ≡ pool_at ledger pool.name pair

-- The problem of bringing the parts to t over all those pools, in the order of their names.
pub record IsOpenProblemIn (ledger : Ledger) (parts : List Part) (t : Name) (problem : OpenView) : Type 0 where
  pub sound : IsOpenProblemOf parts t problem.pools problem
  pub pools : (pool : ProblemPool) → Contains problem.pools pool ↔ IsPoolIn ledger pool

-- The same for one part, d of s.
abbrev pub IsProblemIn : Ledger → (s t : Name) → (d : ℕ) → ProblemView → Type 0
IsProblemIn ledger s t d problem = IsOpenProblemIn ledger (one_part s d) t (open_view problem)
