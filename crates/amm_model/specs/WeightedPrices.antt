-- The average price of a pool's token over a stretch of a run, from its reserves alone: each price
-- counts for as long as it stood. No accumulator and no modulus is in it.
use Rattle.std.specs.Prelude.{ℕ, ◌+◌, ◌-◌, ◌*◌, ◌/◌, ◌^◌, List, [], ◌∷◌, Option, Some, None, nat_eq, if◌then◌else◌}
use Rattle.amm_model.specs.declared.pair.PairRecord.{PairRecord}
use Rattle.amm_model.specs.Ledger.{Ledger, pair_of}
use Rattle.amm_names.specs.Names.{Name}

-- The price of one unit of `per` in units of the other token, with 48 binary places; 0 where a
-- reserve is 0. (whitepaper, 2.2, where it has 112)
abbrev pub spot_price : (units per : ℕ) → ℕ
spot_price units per = if nat_eq units 0 then 0 else (if nat_eq per 0 then 0 else units * 2 ^ 48 / per)

abbrev pub spot0 : Option PairRecord → ℕ
spot0 None = 0
spot0 (Some pair) = spot_price pair.r1 pair.r0

abbrev pub spot1 : Option PairRecord → ℕ
spot1 None = 0
spot1 (Some pair) = spot_price pair.r0 pair.r1

-- The prices of a pool's token 0 and of its token 1 in a ledger.
abbrev pub price0 : Name → Ledger → ℕ
price0 pool ledger = spot0 (pair_of ledger.pairs pool)

abbrev pub price1 : Name → Ledger → ℕ
price1 pool ledger = spot1 (pair_of ledger.pairs pool)

-- From a ledger through those that the lines of a stretch leave, one after the other: the sum of
-- the prices, each weighted with the seconds by which its line raises the time. Only a line that
-- sets the time has such a weight. (whitepaper, 2.2)
abbrev pub weighted_sum : (price : Ledger → ℕ) → Ledger → List Ledger → ℕ
weighted_sum price ledger [] = 0
weighted_sum price ledger (next ∷ later) = (next.time - ledger.time) * price ledger + weighted_sum price next later

-- The time at the end of the stretch.
abbrev pub end_time : Ledger → List Ledger → ℕ
end_time ledger [] = ledger.time
end_time ledger (next ∷ later) = end_time next later

-- The time-weighted average of a price: its weighted sum over the seconds of the stretch.
abbrev pub weighted_average : (price : Ledger → ℕ) → Ledger → List Ledger → ℕ
weighted_average price ledger later = weighted_sum price ledger later / (end_time ledger later - ledger.time)
