-- What the operations of a pair do to the ledger (Uniswap v2 core, UniswapV2Pair).
use Rattle.std.specs.Prelude.{◌≡◌, ℕ, ◌+◌, ◌-◌, ◌*◌, ◌/◌, ◌==◌, ◌<◌, ◌≤◌, Bool, true, false, not, ◌&&◌, ◌||◌, nat_lt, nat_le, Option, Some, None, Result, Ok, Err, if◌then◌else◌}
use Rattle.amm_names.specs.Names.{Name}
use Rattle.amm_names.specs.declared.holder.Holder.{Holder}
use Rattle.amm_names.specs.declared.holder.Holder.TheVariants as holder
use Rattle.amm_names.specs.declared.holder.Asset.TheVariants as asset
use Rattle.amm_model.specs.declared.pair.PairRecord.{PairRecord}
use Rattle.amm_model.specs.declared.pair.MintReceipt.{MintReceipt}
use Rattle.amm_model.specs.declared.pair.BurnReceipt.{BurnReceipt}
use Rattle.amm_model.specs.declared.pair.SwapReceipt.{SwapReceipt}
use Rattle.amm_model.specs.declared.pair.SkimReceipt.{SkimReceipt}
use Rattle.amm_model.specs.declared.fault.Refusal.{Refusal}
use Rattle.amm_model.specs.declared.fault.Refusal.TheVariants as code
use Rattle.amm_model.specs.Outcome.{◌>>=◌, refuse_if, Outcome}
use Rattle.amm_names.specs.Pools.{pool_token0, pool_token1, pool_fee}
use Rattle.amm_model.specs.Root.{root_of}
use Rattle.amm_model.specs.Swap.{admits}
use Rattle.amm_model.specs.Formulas.{later_shares_of, fee_shares_of, accumulated_record}
use Rattle.amm_model.specs.Pools.{same_name, asset0, asset1, held0, held1, supply, Terms}
use Rattle.amm_model.specs.declared.limits.TheConstants.{RESERVE_LIMIT, FIRST_LOCKED}
use Rattle.amm_model.specs.Ledger.{Ledger, balance, with_more, pair_of, with_pair}
use Rattle.amm_model.specs.Postings.{transfer, retire}

-- the pair of a pool, if it has one
abbrev pub if_there : Option PairRecord → Result PairRecord Refusal
if_there None = Err code.NoPair
if_there (Some pair) = Ok pair

-- the pair of a pool, if it has one that is not locked (core, the modifier lock)
abbrev pub if_free : Option PairRecord → Result PairRecord Refusal
if_free None = Err code.NoPair
if_free (Some pair) = if pair.locked then Err code.Locked else Ok pair

-- the pair that an operation begins with
abbrev pub free_pair : Ledger → Name → Result PairRecord Refusal
free_pair ledger pool = if_free (pair_of ledger.pairs pool)

-- ---- update

-- the record with these reserves, after the accumulators have grown (whitepaper 2.2)
abbrev pub renewed_record : PairRecord → (time b0 b1 : ℕ) → PairRecord
renewed_record pair time b0 b1 = record (accumulated_record pair time) { r0 = b0; r1 = b1 }

-- the record with these balances as its reserves, if both are within the limit of a reserve (core,
-- _update)
unfoldable pub updated_record_to : PairRecord → (time b0 b1 : ℕ) → Result PairRecord Refusal
updated_record_to pair time b0 b1 =
    if nat_lt RESERVE_LIMIT b0 then Err code.Overflow
    else (if nat_lt RESERVE_LIMIT b1 then Err code.Overflow
    else Ok (renewed_record pair time b0 b1))

-- the record with what the pool has as its reserves
abbrev pub updated_record : Ledger → Name → PairRecord → Result PairRecord Refusal
updated_record ledger pool pair = updated_record_to pair ledger.time (held0 ledger pool) (held1 ledger pool)

-- what the pool has becomes its reserves; the answer is the new record (core, sync)
unfoldable pub sync : Ledger → Name → Outcome PairRecord
sync ledger pool = do
  pair ← free_pair ledger pool
  new ← updated_record ledger pool pair
  Ok (record { ledger = with_pair ledger pool new; answer = new })

-- these amounts of its two tokens go from the pool (core, _safeTransfer)
unfoldable pub send_both : Ledger → Name → (n0 n1 : ℕ) → Holder → Outcome (Unit {0})
send_both ledger pool n0 n1 to = do
  first ← transfer ledger (asset0 pool) (holder.Pool pool) to n0
  transfer first.ledger (asset1 pool) (holder.Pool pool) to n1

-- what the pool has above its reserves
abbrev pub excess : Ledger → Name → PairRecord → SkimReceipt
excess ledger pool pair = record { sent0 = held0 ledger pool - pair.r0; sent1 = held1 ledger pool - pair.r1 }

-- what the pool has above its reserves is sent, and its record stays (core, skim)
unfoldable pub skim : Ledger → Name → Holder → Outcome SkimReceipt
skim ledger pool to = do
  pair ← free_pair ledger pool
  sent ← send_both ledger pool (held0 ledger pool - pair.r0) (held1 ledger pool - pair.r1) to
  Ok (record { ledger = sent.ledger; answer = excess ledger pool pair })

-- ---- loans and swaps

-- the record with its lock set, and with its lock free
abbrev pub locked_pair : PairRecord → PairRecord
locked_pair pair = record pair { locked = true }

abbrev pub unlocked_pair : PairRecord → PairRecord
unlocked_pair pair = record pair { locked = false }

-- whether the holder is one of the pool's two tokens
abbrev pub is_token_of : Name → Holder → Bool
is_token_of pool (holder.Token name) = same_name name (pool_token0 pool) || same_name name (pool_token1 pool)
is_token_of pool other = false

-- the pair that may lend these outputs to the receiver: it is free, something is asked of it and
-- less than its reserves, and the receiver is none of its tokens (core, swap)
unfoldable pub lending_pair : Ledger → Name → (out0 out1 : ℕ) → Holder → Result PairRecord Refusal
lending_pair ledger pool out0 out1 to = do
  pair ← free_pair ledger pool
  _ ← refuse_if (out0 == 0 && out1 == 0) code.InsufficientOutputAmount
  _ ← refuse_if (nat_le pair.r0 out0 || nat_le pair.r1 out1) code.InsufficientLiquidity
  _ ← refuse_if (is_token_of pool to) code.InvalidTo
  Ok pair

-- the first half of a swap: the pair is locked, and the outputs are sent; the answer is the record
-- that is kept meanwhile (core, swap)
unfoldable pub lend : Ledger → Name → (out0 out1 : ℕ) → Holder → Outcome PairRecord
lend ledger pool out0 out1 to = do
  pair ← lending_pair ledger pool out0 out1 to
  sent ← send_both (with_pair ledger pool (locked_pair pair)) pool out0 out1 to
  Ok (record { ledger = sent.ledger; answer = locked_pair pair })

-- the same as a loan, which keeps its terms (core, swap with data; whitepaper 2.3)
abbrev pub open_loan : Ledger → Name → (out0 out1 : ℕ) → Holder → Outcome Terms
open_loan ledger pool out0 out1 to = do
  lent ← lend ledger pool out0 out1 to
  Ok (record { ledger = lent.ledger; answer = record { pool = pool; out0 = out0; out1 = out1; pair = lent.answer } })

-- what has come in since the outputs went out: 0 where the balance is less than the loan left
-- (core, swap)
abbrev pub came_to : PairRecord → (b0 b1 out0 out1 : ℕ) → SwapReceipt
came_to pair b0 b1 out0 out1 = record { in0 = b0 - (pair.r0 - out0); in1 = b1 - (pair.r1 - out1); out0 = out0; out1 = out1 }

abbrev pub came_in : Ledger → Name → PairRecord → (out0 out1 : ℕ) → SwapReceipt
came_in ledger pool pair out0 out1 = came_to pair (held0 ledger pool) (held1 ledger pool) out0 out1

-- whether what the pool has, less the pool's fee on what came in, keeps the product of the reserves
-- (whitepaper 3.2.1)
abbrev pub keeps_product : Ledger → Name → PairRecord → SwapReceipt → Bool
keeps_product ledger pool pair paid = admits (pool_fee pool) pair.r0 pair.r1 (held0 ledger pool) (held1 ledger pool) paid.in0 paid.in1

-- what came in since this record lent its outputs is tested; then the reserves are what the pool
-- has, and the pair is free (core, swap)
unfoldable pub settle_swap : Ledger → Name → PairRecord → (out0 out1 : ℕ) → Outcome SwapReceipt
settle_swap ledger pool pair out0 out1 = do
  let paid = came_in ledger pool pair out0 out1
  _ ← refuse_if (paid.in0 == 0 && paid.in1 == 0) code.InsufficientInputAmount
  _ ← refuse_if (not (keeps_product ledger pool pair paid)) code.K
  new ← updated_record ledger pool pair
  Ok (record { ledger = with_pair ledger pool (unlocked_pair new); answer = paid })

-- the second half of a swap (core, swap)
unfoldable pub give_back : Ledger → Name → (out0 out1 : ℕ) → Outcome SwapReceipt
give_back ledger pool out0 out1 = do
  pair ← if_there (pair_of ledger.pairs pool)
  settle_swap ledger pool pair out0 out1

-- both halves at once: the receiver has paid before (core, swap without data)
unfoldable pub swap : Ledger → Name → (out0 out1 : ℕ) → Holder → Outcome SwapReceipt
swap ledger pool out0 out1 to = do
  lent ← lend ledger pool out0 out1 to
  give_back lent.ledger pool out0 out1

-- ---- the protocol's fee

-- the zero holder as the fee's receiver: no fee is taken
abbrev pub is_nobody : Holder → Bool
is_nobody holder.Zero = true
is_nobody other = false

-- the shares that the protocol gets before a mint or a burn (core, _mintFee; whitepaper 2.4)
unfoldable pub fee_due : Ledger → Name → PairRecord → ℕ
fee_due ledger pool pair = if is_nobody ledger.fee_to then 0 else fee_shares_of (supply ledger pool) pair.r0 pair.r1 pair.k_last

-- the ledger with these shares given to who gets the fee
unfoldable pub with_fee : Ledger → Name → ℕ → Ledger
with_fee ledger pool fee = if fee == 0 then ledger else with_more ledger (asset.Share pool) ledger.fee_to fee

-- the record at the end of a mint or a burn: the product is kept where somebody gets the fee
abbrev pub with_product : Bool → PairRecord → PairRecord
with_product nobody pair = record pair { k_last = if nobody then 0 else pair.r0 * pair.r1 }

-- ---- mint

-- the shares for what was brought above the reserves: at first the root of the product of the
-- amounts, less the first ones (whitepaper 3.4), and then in proportion to the supply
unfoldable pub shares_for : Ledger → Name → PairRecord → (supply : ℕ) → ℕ
shares_for ledger pool pair supply =
    if supply == 0 then root_of ((held0 ledger pool - pair.r0) * (held1 ledger pool - pair.r1)) - FIRST_LOCKED
    else later_shares_of (held0 ledger pool - pair.r0) (held1 ledger pool - pair.r1) supply pair.r0 pair.r1

-- the ledger with n shares given; the first shares of all are given together with those that the
-- zero holder keeps for ever (core, mint)
unfoldable pub with_shares : Ledger → Name → Holder → (supply n : ℕ) → Ledger
with_shares ledger pool to supply n =
    if supply == 0 then with_more (with_more ledger (asset.Share pool) to n) (asset.Share pool) holder.Zero FIRST_LOCKED
    else with_more ledger (asset.Share pool) to n

-- shares for what the pool has above its reserves, of the supply with the fee's (core, mint)
unfoldable pub mint : Ledger → Name → Holder → Outcome MintReceipt
mint ledger pool to = do
  pair ← free_pair ledger pool
  let fee = fee_due ledger pool pair
  let before = supply ledger pool + fee
  let shares = shares_for ledger pool pair before
  let given = with_shares (with_fee ledger pool fee) pool to before shares
  _ ← refuse_if (shares == 0) code.InsufficientLiquidityMinted
  new ← updated_record given pool pair
  Ok (record { ledger = with_pair given pool (with_product (is_nobody ledger.fee_to) new); answer = record { shares = shares; fee_shares = fee } })

-- ---- burn

-- the shares that the pool has of itself
abbrev pub own_shares : Ledger → Name → ℕ
own_shares ledger pool = balance ledger (asset.Share pool) (holder.Pool pool)

-- what the pool's own shares stand for: their part, of a supply, of all that the pool has (core,
-- burn)
unfoldable pub burn_amounts : Ledger → Name → (supply fee : ℕ) → BurnReceipt
burn_amounts ledger pool supply fee = record {
  amount0 = own_shares ledger pool * held0 ledger pool / supply;
  amount1 = own_shares ledger pool * held1 ledger pool / supply;
  fee_shares = fee;
}

-- the pool's own shares, counted before the fee, end for their part of what the pool has (core,
-- burn)
unfoldable pub burn : Ledger → Name → Holder → Outcome BurnReceipt
burn ledger pool to = do
  pair ← free_pair ledger pool
  let fee = fee_due ledger pool pair
  let before = supply ledger pool + fee
  let parts = burn_amounts ledger pool before fee
  _ ← refuse_if (before == 0) code.InsufficientLiquidityBurned
  _ ← refuse_if (parts.amount0 == 0 || parts.amount1 == 0) code.InsufficientLiquidityBurned
  fewer ← retire (with_fee ledger pool fee) (asset.Share pool) (holder.Pool pool) (own_shares ledger pool)
  sent ← send_both fewer.ledger pool parts.amount0 parts.amount1 to
  new ← updated_record sent.ledger pool pair
  Ok (record { ledger = with_pair sent.ledger pool (with_product (is_nobody ledger.fee_to) new); answer = parts })

-- against the squared supply, counted after the protocol's fee, the product of the reserves did not
-- fall
abbrev pub PerShareKept : Ledger → Ledger → Name → (fee : ℕ) → Type 0
PerShareKept old new pool fee =
    (was now : PairRecord) → pair_of old.pairs pool ≡ Some was → pair_of new.pairs pool ≡ Some now → 0 < supply old pool + fee →
    (was.r0 * was.r1) * (supply new pool * supply new pool) ≤ (now.r0 * now.r1) * ((supply old pool + fee) * (supply old pool + fee))
