-- What a pool is called and has, in the ledger.
use Rattle.std.specs.Prelude.{ℕ, Bool, nat_eq}
use Rattle.std.specs.Cmp.Lexicographic.{pointwise}
use Rattle.amm_names.specs.Names.{Name}
use Rattle.amm_names.specs.declared.holder.Holder.TheVariants as holder
use Rattle.amm_names.specs.declared.holder.Asset.{Asset}
use Rattle.amm_names.specs.declared.holder.Asset.TheVariants as asset
use Rattle.amm_model.specs.declared.pair.PairRecord.{PairRecord}
use Rattle.amm_names.specs.Pools.{pool_token0, pool_token1}
use Rattle.amm_model.specs.Ledger.{Ledger, balance, total}

-- whether two names are spelled alike
abbrev pub same_name : Name → Name → Bool
same_name = pointwise nat_eq

-- the two tokens of a pool as assets
abbrev pub asset0 : Name → Asset
asset0 pool = asset.Token (pool_token0 pool)

abbrev pub asset1 : Name → Asset
asset1 pool = asset.Token (pool_token1 pool)

-- what the pool has of each, which is not what its record says
abbrev pub held0 : Ledger → Name → ℕ
held0 ledger pool = balance ledger (asset0 pool) (holder.Pool pool)

abbrev pub held1 : Ledger → Name → ℕ
held1 ledger pool = balance ledger (asset1 pool) (holder.Pool pool)

-- how many shares of the pool there are
abbrev pub supply : Ledger → Name → ℕ
supply ledger pool = total ledger (asset.Share pool)

-- what a loan was made of: its pool, its outputs, and the pair's record, which is locked
pub record Terms : Type 0 where
  pub pool : Name
  pub out0 : ℕ
  pub out1 : ℕ
  pub pair : PairRecord
