-- The price oracle: observations of a pool are kept, and average prices between two of them told.
use Rattle.std.specs.Prelude.{ℕ, suc, ◌+◌, ◌==◌, not, nat_le, nat_lt, Bool, List, [], ◌∷◌, length, Option, Some, None, Result, Ok, Err, ok_or, if◌then◌else◌}
use Rattle.std.specs.Option.{option_or}
use Rattle.amm_names.specs.Names.{Name}
use Rattle.amm_names.specs.Pools.{pool_token0, pool_token1}
use Rattle.amm_model.specs.declared.pair.PairRecord.{PairRecord}
use Rattle.amm_model.specs.declared.observation.Observation.{Observation}
use Rattle.amm_model.specs.declared.observation.Averages.{Averages}
use Rattle.amm_model.specs.declared.observation.WindowAnswer.{WindowAnswer}
use Rattle.amm_model.specs.declared.fault.Refusal.{Refusal}
use Rattle.amm_model.specs.declared.fault.Refusal.TheVariants as code
use Rattle.amm_model.specs.declared.limits.TheConstants.{AMOUNT_LIMIT, OBSERVATION_LIMIT}
use Rattle.amm_model.specs.Outcome.{◌>>=◌, refuse_if, Outcome}
use Rattle.amm_model.specs.Ledger.{Ledger, pair_of, observation_at, with_observation}
use Rattle.amm_model.specs.Pools.{same_name}
use Rattle.amm_model.specs.Operations.{sync}
use Rattle.amm_model.specs.Observations.{observation_of, is_window, average0, average1, at_average, is_before}

-- An observation of a pool with this record is kept; the answer is its number, counted from 1.
unfoldable pub add_observation : Ledger → (pool : Name) → PairRecord → Outcome ℕ
add_observation ledger pool pair = do
  _ ← refuse_if (nat_le OBSERVATION_LIMIT (length ledger.observations)) code.ObservationLimit
  Ok (record { ledger = with_observation ledger (observation_of pool ledger.time pair); answer = length ledger.observations + 1 })

-- A pool is brought up to the time, as by a sync, and then observed.
unfoldable pub observe : Ledger → (pool : Name) → Outcome ℕ
observe ledger pool = do
  synced ← sync ledger pool
  add_observation synced.ledger pool synced.answer

-- Both average prices between two observations.
unfoldable pub averages_between : (first second : Observation) → Result Averages Refusal
averages_between first second = do
  _ ← refuse_if (not (is_window first second)) code.BadWindow
  Ok (record { price0 = average0 first second; price1 = average1 first second })

-- Both average prices between the observations with two numbers.
unfoldable pub average : Ledger → (i j : ℕ) → Result Averages Refusal
average ledger i j = do
  first ← ok_or (observation_at ledger.observations i) code.NoObservation
  second ← ok_or (observation_at ledger.observations j) code.NoObservation
  averages_between first second

-- The average price of one of the two tokens of a pool.
abbrev pub price_of : (pool : Name) → Averages → (token : Name) → Result ℕ Refusal
price_of pool averages token =
    if same_name token (pool_token0 pool) then Ok averages.price0
    else (if same_name token (pool_token1 pool) then Ok averages.price1 else Err code.UnknownToken)

-- What an amount of a token of a pool comes to in the other at the average price between two
-- observations of the pool. (Uniswap v2 periphery, ExampleOracleSimple.consult)
unfoldable pub consult_between : (first second : Observation) → (token : Name) → (amount : ℕ) → Result ℕ Refusal
consult_between first second token amount = do
  averages ← averages_between first second
  price ← price_of first.pool averages token
  _ ← refuse_if (nat_lt AMOUNT_LIMIT (at_average price amount)) code.AmountLimit
  Ok (at_average price amount)

-- The same between the observations with two numbers.
unfoldable pub consult : Ledger → (i j : ℕ) → (token : Name) → (amount : ℕ) → Result ℕ Refusal
consult ledger i j token amount = do
  first ← ok_or (observation_at ledger.observations i) code.NoObservation
  second ← ok_or (observation_at ledger.observations j) code.NoObservation
  consult_between first second token amount

-- The last of some observations that passes a test, with its number, where the first of them has
-- this one.
unfoldable pub last_from : ℕ → (Observation → Bool) → List Observation → Option (ℕ × Observation)
last_from number passes [] = None
last_from number passes (o ∷ later) = option_or (last_from (suc number) passes later) (if passes o then Some (number, o) else None)

-- The last observation of a pool that was made at least so many seconds before a time.
abbrev pub last_before : Ledger → (pool : Name) → (seconds time : ℕ) → Option (ℕ × Observation)
last_before ledger pool seconds time = last_from 1 (is_before pool seconds time) ledger.observations

-- Both average prices of a pool over a window that ends with its last observation and reaches back
-- at least so many seconds, to the last observation before.
unfoldable pub window : Ledger → (pool : Name) → (seconds : ℕ) → Result WindowAnswer Refusal
window ledger pool seconds = do
  _ ← ok_or (pair_of ledger.pairs pool) code.NoPair
  _ ← refuse_if (seconds == 0) code.ZeroAmount
  second ← ok_or (last_before ledger pool 0 ledger.time) code.NoObservation
  first ← ok_or (last_before ledger pool seconds second.1.time) code.NoObservation
  averages ← averages_between first.1 second.1
  Ok (record { first = first.0; second = second.0; averages = averages })
