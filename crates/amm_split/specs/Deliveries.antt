-- Legs with what they deliver.
use Rattle.std.specs.Prelude.{ℕ}
use Rattle.amm_model.specs.declared.problem.Part.{Part}
use Rattle.amm_model.specs.Routing.{OpenView, ProblemView}
use Rattle.amm_model.specs.Legs.{Delivers}
use Rattle.amm_model.specs.Values.{AtLeastTheWays, IsOneOrTwoWayValue}
use Rattle.amm_split.specs.declared.deliveries.Delivery.{Delivery}

-- the one part of a problem from one token to another
abbrev pub source_part : ProblemView → Part
source_part problem = record { token = problem.s; amount = problem.d }

-- legs that deliver the greatest one-way or two-way value of a part
pub record IsBestOfWays (problem : OpenView) (part : Part) (found : Delivery) : Type 0 where
  pub delivers : Delivers problem found.legs found.amount
  pub value : IsOneOrTwoWayValue problem.pools part.token problem.t part.amount found.amount
  pub ways : AtLeastTheWays problem.pools part.token problem.t part.amount found.amount

-- the part has neither
abbrev pub HasNoWay : OpenView → Part → Type 0
HasNoWay problem part = (value : ℕ) → IsOneOrTwoWayValue problem.pools part.token problem.t part.amount value → ⊥
