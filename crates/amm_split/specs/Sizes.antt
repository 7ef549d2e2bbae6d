-- What paths of a list give on sixteenths of an amount, one alone or two.
use Rattle.std.specs.Prelude.{ℕ, ◌≡◌, ◌+◌, ◌-◌, ◌<◌, ◌≤◌, Option, Some, None, List, length, slice_index, slice_index_or}
use Rattle.amm_model.specs.declared.problem.ProblemPool.{ProblemPool}
use Rattle.amm_model.specs.Paths.{gives}
use Rattle.amm_model.specs.Values.{sixteenths}
use Rattle.amm_graph.specs.declared.path.Path.{Path}
use Rattle.amm_graph.specs.Hops.{hops_of}
use Rattle.amm_split.specs.declared.sizes.BestWay.{BestWay}
use Rattle.amm_split.specs.Pairs.{AreApartAt, no_path}

-- what the path at a place gives
abbrev pub gives_by : List ProblemPool → List Path → (i x : ℕ) → ℕ
gives_by pools paths i x = gives pools (hops_of (slice_index_or paths i no_path)) x

-- an amount of the list, at its place
pub record IsOne (amounts : List ℕ) (k : ℕ) (way : BestWay) : Type 0 where
  pub there : way.first < length amounts
  pub size : way.k ≡ k
  pub alone : way.second ≡ None
  pub some : 1 ≤ way.amount
  pub is : way.amount ≡ slice_index amounts way.first

abbrev pub OnesBelow : List ℕ → (bound n : ℕ) → Type 0
OnesBelow amounts bound n = (i : ℕ) → i < n → slice_index amounts i ≤ bound

-- what the first path gives, and the second on the rest, where there is one
abbrev pub IsGiven : List ProblemPool → List Path → (d k first amount : ℕ) → Option ℕ → Type 0
IsGiven pools paths d k first amount None = amount ≡ gives_by pools paths first (sixteenths d k)
IsGiven pools paths d k first amount (Some second) =
    (k ≤ 15) × (second < length paths) × AreApartAt paths first second × (1 ≤ gives_by pools paths first (sixteenths d k)) × (1 ≤ gives_by pools paths second (d - sixteenths d k))
    × (amount ≡ gives_by pools paths first (sixteenths d k) + gives_by pools paths second (d - sixteenths d k))

-- a way of one or two of the paths
pub record IsWayOf (pools : List ProblemPool) (paths : List Path) (d : ℕ) (way : BestWay) : Type 0 where
  pub size : (1 ≤ way.k) × (way.k ≤ 16)
  pub there : way.first < length paths
  pub some : 1 ≤ way.amount
  pub is : IsGiven pools paths d way.k way.first way.amount way.second

-- no path on k sixteenths, and no two of which one is on k sixteenths, give more than the bound
pub record SizeBelow (pools : List ProblemPool) (paths : List Path) (d bound k : ℕ) : Type 0 where
  pub ones : (i : ℕ) → i < length paths → gives_by pools paths i (sixteenths d k) ≤ bound
  pub twos : k ≤ 15 → (i j : ℕ) → i < length paths → j < length paths → AreApartAt paths i j →
      1 ≤ gives_by pools paths i (sixteenths d k) → 1 ≤ gives_by pools paths j (d - sixteenths d k) →
      gives_by pools paths i (sixteenths d k) + gives_by pools paths j (d - sixteenths d k) ≤ bound

abbrev pub SizesBelow : List ProblemPool → List Path → (d bound n : ℕ) → Type 0
SizesBelow pools paths d bound n = (k : ℕ) → 1 ≤ k → k < n → SizeBelow pools paths d bound k
