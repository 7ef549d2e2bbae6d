-- What a quote for a basket of several parts has to deliver at least, and which quotes answer one.
use Rattle.std.specs.Prelude.{ℕ, ◌≡◌, ◌+◌, ◌<◌, ◌≤◌, ◌⊎◌, ◌++◌, List, [], ◌∷◌, Contains}
use Rattle.amm_model.specs.Routing.{OpenView, IsOpenProblem}
use Rattle.amm_model.specs.Bound.{bound_of}
use Rattle.amm_model.specs.Legs.{Delivers}
use Rattle.amm_model.specs.Settled.{IsSettled}
use Rattle.amm_model.specs.declared.route.OpenQuote.{OpenQuote}
use Rattle.amm_names.specs.Names.{Name}
use Rattle.amm_model.specs.declared.problem.Part.{Part}
use Rattle.amm_model.specs.declared.problem.ProblemPool.{ProblemPool}
use Rattle.amm_model.specs.declared.route.Hop.{Hop}
use Rattle.amm_model.specs.Paths.{IsPath, ComesBefore, AreApart, hop_places, gives}
use Rattle.amm_model.specs.Values.{IsOneOrTwoWayValue}

-- A path that gives something on the whole part, over pools that no part before has.
pub record IsWayOfPart (pools : List ProblemPool) (t : Name) (used : List ℕ) (part : Part) (path : List Hop) : Type 0 where
  pub path_of : IsPath pools part.token t path
  pub apart : AreApart (hop_places path) used
  pub some : 1 ≤ gives pools path part.amount

-- The one that gives most; among equals the one that comes first.
pub record IsBestWay (pools : List ProblemPool) (t : Name) (used : List ℕ) (part : Part) (path : List Hop) : Type 0 where
  pub way : IsWayOfPart pools t used part path
  pub best : (other : List Hop) → IsWayOfPart pools t used part other →
      (gives pools other part.amount < gives pools path part.amount)
      ⊎ ((gives pools other part.amount ≡ gives pools path part.amount) × (ComesBefore (hop_places path) (hop_places other) ⊎ (path ≡ other)))

-- The parts one after the other, each whole on its best way; a part without a way brings nothing.
abbrev pub IsSequentialValue : List ProblemPool → (t : Name) → (used : List ℕ) → List Part → (value : ℕ) → Type 0
IsSequentialValue pools t used [] value = value ≡ 0
IsSequentialValue pools t used (part ∷ parts) value =
    (((path : List Hop) → IsWayOfPart pools t used part path → ⊥) × IsSequentialValue pools t used parts value)
    ⊎ ((path : List Hop) × (rest : ℕ) × IsBestWay pools t used part path
    × IsSequentialValue pools t (used ++ hop_places path) parts rest × (value ≡ gives pools path part.amount + rest))

-- A one-way or two-way value of one of the parts.
pub record IsValueOfPart (problem : OpenView) (value : ℕ) : Type 0 where
  pub part : Part
  pub is_part : Contains problem.parts part
  pub given : IsOneOrTwoWayValue problem.pools part.token problem.t part.amount value

-- The sequential value, or a one-way or two-way value of a part.
abbrev pub IsBasketValue : OpenView → ℕ → Type 0
IsBasketValue problem value = IsSequentialValue problem.pools problem.t [] problem.parts value ⊎ IsValueOfPart problem value

-- At least each of them.
abbrev pub AtLeastPartValues : OpenView → (amount : ℕ) → Type 0
AtLeastPartValues problem amount = (value : ℕ) → IsBasketValue problem value → value ≤ amount

-- No part can be brought to the target: no path gives anything on any number of sixteenths of it.
abbrev pub HasNoBasket : OpenView → Type 0
HasNoBasket problem = (value : ℕ) → IsValueOfPart problem value → ⊥

-- A quote that answers its basket: its prices are settled, its bound is that of its prices, its
-- legs deliver its amount, and this is at least every value. Route and prices are free within this.
pub record IsBasketAnswer (quote : OpenQuote) : Type 0 where
  pub problem : IsOpenProblem quote.problem
  pub settled : IsSettled quote.problem quote.prices
  pub bound : quote.bound ≡ bound_of quote.problem quote.prices
  pub delivers : Delivers quote.problem quote.route.legs quote.delivered
  pub values : AtLeastPartValues quote.problem quote.delivered
