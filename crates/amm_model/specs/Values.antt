-- What a split answer has to deliver at least: one-way and two-way values, of so much of one token
-- brought to another over pools.
use Rattle.std.specs.Prelude.{ℕ, ◌≡◌, ◌+◌, ◌-◌, ◌*◌, ◌/◌, ◌≤◌, ◌⊎◌, List}
use Rattle.amm_names.specs.Names.{Name}
use Rattle.amm_model.specs.declared.problem.ProblemPool.{ProblemPool}
use Rattle.amm_model.specs.declared.route.Hop.{Hop}
use Rattle.amm_model.specs.Paths.{IsPath, AreApart, hop_places, gives}

-- So many sixteenths of an amount.
abbrev pub sixteenths : ℕ → ℕ → ℕ
sixteenths d k = d * k / 16

-- What some path gives on some sixteenths.
pub record IsOneWayValue (pools : List ProblemPool) (from to : Name) (d amount : ℕ) : Type 0 where
  pub path : List Hop
  pub k : ℕ
  pub is_path : IsPath pools from to path
  pub size : (1 ≤ k) × (k ≤ 16)
  pub some : 1 ≤ amount
  pub given : amount ≡ gives pools path (sixteenths d k)

-- What two paths without a common pool give, the second on what the first leaves.
pub record IsTwoWayValue (pools : List ProblemPool) (from to : Name) (d amount : ℕ) : Type 0 where
  pub first : List Hop
  pub second : List Hop
  pub k : ℕ
  pub is_first : IsPath pools from to first
  pub is_second : IsPath pools from to second
  pub apart : AreApart (hop_places first) (hop_places second)
  pub size : (1 ≤ k) × (k ≤ 15)
  pub first_gives : 1 ≤ gives pools first (sixteenths d k)
  pub second_gives : 1 ≤ gives pools second (d - sixteenths d k)
  pub given : amount ≡ gives pools first (sixteenths d k) + gives pools second (d - sixteenths d k)

abbrev pub IsOneOrTwoWayValue : (pools : List ProblemPool) → (from to : Name) → (d amount : ℕ) → Type 0
IsOneOrTwoWayValue pools from to d amount = IsOneWayValue pools from to d amount ⊎ IsTwoWayValue pools from to d amount

-- At least each of them.
abbrev pub AtLeastTheWays : (pools : List ProblemPool) → (from to : Name) → (d amount : ℕ) → Type 0
AtLeastTheWays pools from to d amount = (value : ℕ) → IsOneOrTwoWayValue pools from to d value → value ≤ amount
