-- An amount that goes over several paths at once, and the legs of it.
use Rattle.std.specs.Prelude.{ℕ, ◌-◌, ◌≤◌, ◌++◌, List, [], ◌∷◌, sum_by}
use Rattle.amm_model.specs.declared.problem.ProblemPool.{ProblemPool}
use Rattle.amm_model.specs.declared.route.Hop.{Hop}
use Rattle.amm_model.specs.declared.route.Leg.{Leg}
use Rattle.amm_names.specs.Names.{Name}
use Rattle.amm_model.specs.Paths.{IsPath, AreApart, hop_places, gives, legs_along}

-- A path with the amount that goes over it.
pub record Portion : Type 0 where
  pub path : List Hop
  pub input : ℕ

-- Portions out of so much of one token, over paths to another of which no two have a pool in common
-- and none has a used pool; each gives something.
abbrev pub ArePortions : List ProblemPool → (from to : Name) → (used : List ℕ) → (left : ℕ) → List Portion → Type 0
ArePortions pools from to used left [] = Unit {0}
ArePortions pools from to used left (portion ∷ portions) =
    IsPath pools from to portion.path × AreApart (hop_places portion.path) used × (portion.input ≤ left) × (1 ≤ gives pools portion.path portion.input)
    × ArePortions pools from to (used ++ hop_places portion.path) (left - portion.input) portions

-- The legs of portions, path by path.
abbrev pub legs_of : List ProblemPool → List Portion → List Leg
legs_of pools [] = []
legs_of pools (portion ∷ portions) = legs_along pools portion.path portion.input ++ legs_of pools portions

-- What the portions give, all together.
abbrev pub given_by : List ProblemPool → List Portion → ℕ
given_by pools portions = sum_by (λ (portion : Portion). gives pools portion.path portion.input) portions
