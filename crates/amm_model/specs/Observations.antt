-- Readings of a pool's price accumulators that are kept, and the average prices between two.
use Rattle.std.specs.Prelude.{ℕ, ◌+◌, ◌-◌, ◌*◌, ◌/◌, ◌%◌, ◌^◌, ◌≤◌, Bool, ◌&&◌, nat_le, nat_lt, List, length, All, AllPairs}
use Rattle.amm_names.specs.Names.{Name}
use Rattle.amm_model.specs.declared.observation.Observation.{Observation}
use Rattle.amm_model.specs.declared.pair.PairRecord.{PairRecord}
use Rattle.amm_model.specs.declared.limits.TheConstants.{OBSERVATION_LIMIT}
use Rattle.amm_model.specs.Pools.{same_name}

-- What is kept of a pool: its name, the time, and both accumulators of its record, which an update
-- has brought up to that time. (whitepaper, 2.2)
abbrev pub observation_of : (pool : Name) → (time : ℕ) → PairRecord → Observation
observation_of pool time pair = record { pool = pool; time = time; acc0 = pair.acc0; acc1 = pair.acc1 }

-- At most 4096 observations are kept, in the order of their times, of which none is still to come.
pub record AreInTime (time : ℕ) (kept : List Observation) : Type 0 where
  pub few : length kept ≤ OBSERVATION_LIMIT
  pub in_order : AllPairs (λ (a b : Observation). a.time ≤ b.time) kept
  pub past : All (λ (o : Observation). o.time ≤ time) kept

-- Whether there is an average between two observations: they are of one pool, the second later by
-- 1 to 2^32-1 seconds, since the accumulators count time modulo 2^32.
abbrev pub is_window : (first second : Observation) → Bool
is_window first second = same_name first.pool second.pool && (nat_lt first.time second.time && nat_lt second.time (first.time + 2 ^ 32))

-- By how much an accumulator grew from one reading to a later one, modulo 2^128.
abbrev pub growth : (before now : ℕ) → ℕ
growth before now = (now + 2 ^ 128 - before) % 2 ^ 128

-- The average price of token 0 in units of token 1, and of token 1 in units of token 0, with 48
-- binary places: the growth of the accumulator over the seconds. (whitepaper, 2.2)
abbrev pub average0 : (first second : Observation) → ℕ
average0 first second = growth first.acc0 second.acc0 / (second.time - first.time)

abbrev pub average1 : (first second : Observation) → ℕ
average1 first second = growth first.acc1 second.acc1 / (second.time - first.time)

-- What an amount of the one token comes to in the other at an average price. (Uniswap v2 periphery,
-- ExampleOracleSimple.consult)
abbrev pub at_average : (average amount : ℕ) → ℕ
at_average average amount = average * amount / 2 ^ 48

-- Whether an observation is one of a pool, made at least so many seconds before a time.
abbrev pub is_before : (pool : Name) → (seconds time : ℕ) → Observation → Bool
is_before pool seconds time o = same_name pool o.pool && nat_le (o.time + seconds) time
