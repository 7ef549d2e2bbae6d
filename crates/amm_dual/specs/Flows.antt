-- What trades give and take of each token, and the line of values that they draw: no prices have a
-- value below it.
use Rattle.std.specs.Prelude.{ℕ, ◌≡◌, ◌+◌, ◌-◌, ◌*◌, ◌/◌, ◌<◌, ◌≤◌, ◌^◌, All, List, [], ◌∷◌, length, sum_by, take}
use Rattle.amm_model.specs.Routing.{OpenView}
use Rattle.amm_model.specs.Bound.{bound_of, part_value, pool_worth, price_of}
use Rattle.amm_dual.specs.declared.lines.Line.{Line}

-- amounts at prices
abbrev pub value_in : List ℕ → List ℕ → ℕ
value_in [] amounts = 0
value_in (price ∷ prices) [] = 0
value_in (price ∷ prices) (amount ∷ amounts) = price * amount + value_in prices amounts

-- an amount for each token of a problem
pub record AreAmounts (problem : OpenView) (amounts : List ℕ) : Type 0 where
  pub many : length amounts ≡ length problem.tokens
  pub few : All (λ (amount : ℕ). amount < 2 ^ 73) amounts

-- in fine parts, no more than the first parts of the problem give
pub record AreGifts (problem : OpenView) (count : ℕ) (given : List ℕ) : Type 0 where
  pub amounts : AreAmounts problem given
  pub covered : (prices : List ℕ) → length prices ≡ length problem.tokens → value_in prices given ≤ 2 ^ 14 * sum_by (part_value problem.tokens prices) (take count problem.parts)

-- and, with trades of its first pools
pub record AreFlows (problem : OpenView) (count : ℕ) (given taken : List ℕ) : Type 0 where
  pub gives : AreAmounts problem given
  pub takes : AreAmounts problem taken
  pub covered : (prices : List ℕ) → length prices ≡ length problem.tokens →
      value_in prices given ≤ value_in prices taken + 2 ^ 14 * (sum_by (part_value problem.tokens prices) problem.parts + sum_by (pool_worth problem.tokens prices) (take count problem.pools) + count)

-- what a line must reach: there the bound is not lower by more than one part in 65536
abbrev pub IsNeed : OpenView → List ℕ → ℕ → Type 0
IsNeed problem prices need =
    need < 2 ^ 126 → 2 ^ 14 * ((bound_of problem prices - bound_of problem prices / 65536) * price_of problem.tokens prices problem.t + length problem.pools) ≤ need

pub record IsLine (problem : OpenView) (prices given taken : List ℕ) (line : Line) : Type 0 where
  pub flows : AreFlows problem (length problem.pools) given taken
  pub gives : line.given ≡ value_in prices given
  pub takes : line.taken ≡ value_in prices taken
  pub few : (line.given < 2 ^ 123) × (line.taken < 2 ^ 123)
  pub need : IsNeed problem prices line.need
  pub below : line.need < 2 ^ 127
