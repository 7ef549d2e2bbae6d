-- A route leg by leg: each leg puts some of what is held of one token into a pool not used before,
-- and the pool pays the other token.
use Rattle.std.specs.Prelude.{ℕ, ◌≡◌, ◌≢◌, ◌+◌, ◌-◌, ◌<◌, ◌≤◌, ◌^◌, List, [], ◌∷◌, length, slice_index_or, false, All, if◌then◌else◌}
use Rattle.std.specs.Str.{bytes_eq}
use Rattle.amm_model.specs.Swap.{amount_out_of}
use Rattle.amm_model.specs.declared.problem.ProblemPool.{ProblemPool}
use Rattle.amm_model.specs.declared.route.Leg.{Leg}
use Rattle.amm_model.specs.Routing.{OpenView, PoolTrade, amount_given, no_pool, fee_of, token0_of, token1_of}
use Rattle.amm_names.specs.Names.{Name}

-- The pool of a leg.
abbrev pub leg_pool : List ProblemPool → Leg → ProblemPool
leg_pool pools leg = slice_index_or pools leg.pool no_pool

-- The token that a leg puts in, and the one that it takes out.
abbrev pub token_in : List ProblemPool → Leg → Name
token_in pools leg = if leg.zero_in then token0_of (leg_pool pools leg) else token1_of (leg_pool pools leg)

abbrev pub token_out : List ProblemPool → Leg → Name
token_out pools leg = if leg.zero_in then token1_of (leg_pool pools leg) else token0_of (leg_pool pools leg)

-- The reserves and the balance on the two sides of a leg.
abbrev pub reserve_in : List ProblemPool → Leg → ℕ
reserve_in pools leg = if leg.zero_in then (leg_pool pools leg).r0 else (leg_pool pools leg).r1

abbrev pub reserve_out : List ProblemPool → Leg → ℕ
reserve_out pools leg = if leg.zero_in then (leg_pool pools leg).r1 else (leg_pool pools leg).r0

abbrev pub balance_in : List ProblemPool → Leg → ℕ
balance_in pools leg = if leg.zero_in then (leg_pool pools leg).b0 else (leg_pool pools leg).b1

-- What is held of each token. At first it is what is given.
abbrev pub Inventory : Type 0
Inventory = Name → ℕ

-- The holdings lose the input and gain the output.
abbrev pub after_leg : List ProblemPool → Inventory → Leg → Inventory
after_leg pools held leg token =
    (held token - (if bytes_eq token (token_in pools leg) then leg.input else 0)) + (if bytes_eq token (token_out pools leg) then leg.output else 0)

-- Both balances are at most 2^48-1, so that an update of the pool is not refused.
abbrev pub IsAdmissible : ProblemPool → Type 0
IsAdmissible pool = (pool.b0 < 2 ^ 48) × (pool.b1 < 2 ^ 48)

-- A leg that may be taken with these holdings, where these pools were used.
pub record IsLeg (pools : List ProblemPool) (used : List ℕ) (held : Inventory) (leg : Leg) : Type 0 where
  pub there : leg.pool < length pools
  pub admissible : IsAdmissible (leg_pool pools leg)
  pub unused : All (λ (place : ℕ). place ≢ leg.pool) used
  pub positive : 1 ≤ leg.input
  pub within : leg.input ≤ held (token_in pools leg)
  pub room : balance_in pools leg + leg.input < 2 ^ 48
  pub gives : 1 ≤ leg.output
  pub pays : leg.output ≡ amount_out_of (fee_of (leg_pool pools leg)) leg.input (reserve_in pools leg) (reserve_out pools leg)

-- Legs that may be taken one after the other.
abbrev pub AreLegs : List ProblemPool → List ℕ → Inventory → List Leg → Type 0
AreLegs pools used held [] = Unit {0}
AreLegs pools used held (leg ∷ legs) = IsLeg pools used held leg × AreLegs pools (leg.pool ∷ used) (after_leg pools held leg) legs

-- The holdings after legs.
abbrev pub after_legs : List ProblemPool → Inventory → List Leg → Inventory
after_legs pools held [] = held
after_legs pools held (leg ∷ legs) = after_legs pools (after_leg pools held leg) legs

-- The legs are a leg-by-leg route of the problem, and the last holdings of t are this amount.
abbrev pub Delivers : OpenView → List Leg → ℕ → Type 0
Delivers problem legs amount = AreLegs problem.pools [] (amount_given problem) legs × (amount ≡ after_legs problem.pools (amount_given problem) legs problem.t)

-- The trade that a leg is.
abbrev pub trade_of : Leg → PoolTrade
trade_of leg = if leg.zero_in
    then record { place = leg.pool; in0 = leg.input; in1 = 0; out0 = 0; out1 = leg.output }
    else record { place = leg.pool; in0 = 0; in1 = leg.input; out0 = leg.output; out1 = 0 }

-- Stands where a list of legs has none.
abbrev pub no_leg : Leg
no_leg = record { pool = 0; zero_in = false; input = 0; output = 0 }

-- The pools used after some legs, the last first.
abbrev pub used_after : List ℕ → List Leg → List ℕ
used_after used [] = used
used_after used (leg ∷ legs) = used_after (leg.pool ∷ used) legs
