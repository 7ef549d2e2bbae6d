-- What pools are worth to a route at given prices, and the bound on every route that follows. (EC
-- 2022, section 3)
use Rattle.std.specs.Prelude.{ℕ, ◌+◌, ◌-◌, ◌*◌, ◌/◌, ◌^◌, List, slice_index, sum_by, nat_lt, if◌then◌else◌}
use Rattle.amm_model.specs.Root.{root_of}
use Rattle.amm_model.specs.Swap.{input_weight}
use Rattle.amm_model.specs.Routing.{OpenView, fee_of, token0_of, token1_of, token_place}
use Rattle.amm_names.specs.Names.{Name}
use Rattle.amm_model.specs.declared.problem.Part.{Part}
use Rattle.amm_model.specs.declared.problem.ProblemPool.{ProblemPool}

-- Twice the geometric mean of a and b, rounded down: the roots have fifteen more binary places.
abbrev pub twice_mean : ℕ → ℕ → ℕ
twice_mean a b = root_of (a * 2 ^ 30) * root_of (b * 2 ^ 30) / 2 ^ 29

-- The most that a route gains from a pool whose reserves are worth a, and b after the fee.
abbrev pub margin : ℕ → ℕ → ℕ → ℕ
margin weight a b = (a + b - twice_mean a b) / weight

-- The worth of reserves at two prices, where so many thousandths of an input count: 0 where neither
-- token is dearer by more than the fee.
abbrev pub worth_by_weight : (weight r0 r1 p0 p1 : ℕ) → ℕ
worth_by_weight weight r0 r1 p0 p1 =
    if nat_lt (1000 * p0 * r0) (weight * p1 * r1) then margin weight (1000 * p0 * r0) (weight * p1 * r1)
    else (if nat_lt (1000 * p1 * r1) (weight * p0 * r0) then margin weight (1000 * p1 * r1) (weight * p0 * r0)
    else 0)

-- The worth of reserves at a fee and two prices.
abbrev pub worth_of : (fee r0 r1 p0 p1 : ℕ) → ℕ
worth_of fee = worth_by_weight (input_weight fee)

-- The price of a token, which stands at the token's place.
abbrev pub price_of : List Name → List ℕ → Name → ℕ
price_of tokens prices name = slice_index prices (token_place tokens name)

-- The worth of a pool at the prices of its tokens.
abbrev pub pool_worth : List Name → List ℕ → ProblemPool → ℕ
pool_worth tokens prices pool = worth_of (fee_of pool) pool.r0 pool.r1 (price_of tokens prices (token0_of pool)) (price_of tokens prices (token1_of pool))

-- What a part is worth at the price of its token.
abbrev pub part_value : List Name → List ℕ → Part → ℕ
part_value tokens prices part = price_of tokens prices part.token * part.amount

-- The bound: what is given and all worths, at the prices, in units of t.
abbrev pub bound_of : OpenView → List ℕ → ℕ
bound_of problem prices =
    (sum_by (part_value problem.tokens prices) problem.parts + sum_by (pool_worth problem.tokens prices) problem.pools) / price_of problem.tokens prices problem.t
