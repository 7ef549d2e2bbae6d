-- The pools of a ledger that a route may use, name by name.
use Rattle.std.specs.Prelude.{◌&&◌, Bool, nat_lt, Option, Some, None, if◌then◌else◌}
use Rattle.amm_model.specs.declared.pair.PairRecord.{PairRecord}
use Rattle.amm_model.specs.declared.problem.ProblemPool.{ProblemPool}
use Rattle.amm_model.specs.Ledger.{Ledger, pair_of}
use Rattle.amm_model.specs.Market.{pool_at}
use Rattle.amm_names.specs.Names.{Name}

-- both reserves are positive
abbrev pub is_filled : PairRecord → Bool
is_filled pair = nat_lt 0 pair.r0 && nat_lt 0 pair.r1

abbrev pub pool_with : Ledger → Name → Option PairRecord → Option ProblemPool
pool_with ledger name None = None
pool_with ledger name (Some pair) = if is_filled pair then Some (pool_at ledger name pair) else None

-- the pool of a name, if it has a pair and both reserves are positive
abbrev pub pool_in : Ledger → Name → Option ProblemPool
pool_in ledger name = pool_with ledger name (pair_of ledger.pairs name)
