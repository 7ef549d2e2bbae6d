-- Parts that are sold alone, and in turn.
use Rattle.std.specs.Prelude.{ℕ, ◌≡◌, ◌≤◌, ◌⊎◌, ◌++◌, List, []}
use Rattle.amm_model.specs.declared.problem.Part.{Part}
use Rattle.amm_model.specs.declared.route.Hop.{Hop}
use Rattle.amm_model.specs.declared.route.Leg.{Leg}
use Rattle.amm_model.specs.Routing.{OpenView}
use Rattle.amm_model.specs.Baskets.{IsBestWay, IsSequentialValue, IsValueOfPart, IsWayOfPart}
use Rattle.amm_model.specs.Legs.{Delivers}
use Rattle.amm_model.specs.Paths.{hop_places, legs_along}
use Rattle.amm_basket.specs.declared.candidates.Candidates.{Candidates}

-- stands where a list of parts has none
abbrev pub no_part : Part
no_part = record { token = []; amount = 0 }

-- the part goes whole over its best way, if it has one
abbrev pub GoesWhole : OpenView → Part → (used used_after : List ℕ) → (legs legs_after : List Leg) → Type 0
GoesWhole problem part used used_after legs legs_after =
    (((path : List Hop) → IsWayOfPart problem.pools problem.t used part path → ⊥) × (used_after ≡ used) × (legs_after ≡ legs))
    ⊎ ((path : List Hop) × IsBestWay problem.pools problem.t used part path
    × (used_after ≡ used ++ hop_places path) × (legs_after ≡ legs ++ legs_along problem.pools path part.amount))

-- legs of the greatest value of a part alone, if any has one, and of the parts in turn
pub record AreCandidates (problem : OpenView) (candidates : Candidates) : Type 0 where
  pub alone : Delivers problem candidates.alone.legs candidates.alone.amount
  pub value : (candidates.alone.amount ≡ 0) ⊎ IsValueOfPart problem candidates.alone.amount
  pub most : (value : ℕ) → IsValueOfPart problem value → value ≤ candidates.alone.amount
  pub in_turn : (value : ℕ) × IsSequentialValue problem.pools problem.t [] problem.parts value × Delivers problem candidates.in_turn value
