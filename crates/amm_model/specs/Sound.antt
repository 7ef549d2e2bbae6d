-- What holds of the ledger at every line.
use Rattle.std.specs.Prelude.{◌≡◌, ◌≢◌, ◌*◌, ◌^◌, ◌<◌, ◌≤◌, ◌⊎◌, true, false, length, All, Some, IsSome}
use Rattle.std.specs.Map.{keys_of}
use Rattle.std.specs.List.{IsDistinct}
use Rattle.amm_names.specs.Names.{Name}
use Rattle.amm_names.specs.declared.holder.Holder.TheVariants as holder
use Rattle.amm_names.specs.declared.holder.Asset.{Asset}
use Rattle.amm_names.specs.declared.holder.Asset.TheVariants as asset
use Rattle.amm_model.specs.declared.pair.PairRecord.{PairRecord}
use Rattle.amm_names.specs.Pools.{pool_token0, pool_token1}
use Rattle.amm_model.specs.Formulas.{IsBacked}
use Rattle.amm_model.specs.Ledger.{Ledger, balance, total, is_listed, pair_of}
use Rattle.amm_model.specs.declared.limits.TheConstants.{AMOUNT_LIMIT, TOKEN_LIMIT, PAIR_LIMIT, QUOTE_LIMIT, RESERVE_LIMIT, FIRST_LOCKED}
use Rattle.amm_model.specs.Pools.{Terms, held0, held1, supply, same_name}
use Rattle.amm_model.specs.SplitAnswers.{IsSplitAnswer}
use Rattle.amm_model.specs.Observations.{AreInTime}

-- the numbers of the record are within their widths
pub record IsSmall (pair : PairRecord) : Type 0 where
  pub r0 : pair.r0 ≤ RESERVE_LIMIT
  pub r1 : pair.r1 ≤ RESERVE_LIMIT
  pub last : pair.last < 2 ^ 32
  pub acc0 : pair.acc0 < 2 ^ 128
  pub acc1 : pair.acc1 < 2 ^ 128

-- a pool that is not locked has its reserves
pub record IsCovered (ledger : Ledger) (pool : Name) (pair : PairRecord) : Type 0 where
  pub first : pair.r0 ≤ held0 ledger pool
  pub second : pair.r1 ≤ held1 ledger pool

-- a pair of a sound ledger: its tokens are listed, its numbers fit, its pool has its reserves
-- unless it is locked, its shares are backed, and the zero holder keeps the first of them
pub record IsSoundPair (ledger : Ledger) (pool : Name) (pair : PairRecord) : Type 0 where
  pub listed : (is_listed ledger.tokens (pool_token0 pool) ≡ true) × (is_listed ledger.tokens (pool_token1 pool) ≡ true)
  pub small : IsSmall pair
  pub covered : pair.locked ≡ false → IsCovered ledger pool pair
  pub backed : IsBacked (supply ledger pool) pair.r0 pair.r1 pair.k_last
  pub kept : (supply ledger pool ≡ 0) ⊎ (FIRST_LOCKED ≤ balance ledger (asset.Share pool) holder.Zero)

-- a listed token, or the shares of a pair that is there
abbrev pub IsKnown : Ledger → Asset → Type 0
IsKnown ledger (asset.Token name) = is_listed ledger.tokens name ≡ true
IsKnown ledger (asset.Share pool) = IsSome (pair_of ledger.pairs pool)

-- every pair is sound and has a name of its own, totals are within their limit, only known assets
-- are held, every quote answers the problem that it keeps, observations are in the order of their
-- times, and the counts are within theirs
pub record IsSound (ledger : Ledger) : Type 0 where
  pub pairs : (pool : Name) (pair : PairRecord) → pair_of ledger.pairs pool ≡ Some pair → IsSoundPair ledger pool pair
  pub names : IsDistinct same_name (keys_of ledger.pairs)
  pub totals : (asset : Asset) → total ledger asset ≤ AMOUNT_LIMIT
  pub known : (asset : Asset) → total ledger asset ≢ 0 → IsKnown ledger asset
  pub tokens : length ledger.tokens ≤ TOKEN_LIMIT
  pub count : length ledger.pairs ≤ PAIR_LIMIT
  pub time : ledger.time ≤ AMOUNT_LIMIT
  pub quotes : length ledger.quotes ≤ QUOTE_LIMIT
  pub answers : All IsSplitAnswer ledger.quotes
  pub observations : AreInTime ledger.time ledger.observations

-- sound, and no pair is locked
pub record IsAtRest (ledger : Ledger) : Type 0 where
  pub sound : IsSound ledger
  pub unlocked : (pool : Name) (pair : PairRecord) → pair_of ledger.pairs pool ≡ Some pair → pair.locked ≡ false

-- the pair of the loan is locked, and its record is the one that the loan was made with
pub record IsOpen (ledger : Ledger) (loan : Terms) : Type 0 where
  pub there : pair_of ledger.pairs loan.pool ≡ Some loan.pair
  pub locked : loan.pair.locked ≡ true

-- the product of the reserves did not fall
abbrev pub ProductKept : Ledger → Ledger → Name → Type 0
ProductKept old new pool = (was now : PairRecord) → pair_of old.pairs pool ≡ Some was → pair_of new.pairs pool ≡ Some now → was.r0 * was.r1 ≤ now.r0 * now.r1
