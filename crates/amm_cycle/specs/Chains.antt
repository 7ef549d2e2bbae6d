-- Hops that a search has begun with, what they give, and the best cycle that it has met.
use Rattle.std.specs.Prelude.{ℕ, ◌≡◌, ◌≢◌, ◌<◌, ◌≤◌, ◌^◌, ◌⊎◌, ◌++◌, List, ◌∷◌, length, map, slice_index, take, All, AllPairs}
use Rattle.amm_model.specs.declared.problem.ProblemPool.{ProblemPool}
use Rattle.amm_model.specs.declared.route.Hop.{Hop}
use Rattle.amm_names.specs.Names.{Name}
use Rattle.amm_model.specs.Paths.{IsHop, Leads, gives, hop_places, hop_to}
use Rattle.amm_model.specs.Cycles.{IsCycle, StandsOn, profit}
use Rattle.amm_cycle.specs.declared.chain.Chain.{Chain}
use Rattle.amm_cycle.specs.declared.found.Found.{Found}

-- the hops up to the count
abbrev pub hops_of : Chain → List Hop
hops_of chain = take chain.count chain.hops

-- different admissible pools from one token to another, of which no two lead to the same token
pub record IsBegun (pools : List ProblemPool) (first at : Name) (hops : List Hop) : Type 0 where
  pub over : All (IsHop pools) hops
  pub different : AllPairs (λ (a b : ℕ). a ≢ b) (hop_places hops)
  pub leads : Leads pools first hops at
  pub simple : AllPairs (λ (a b : Name). a ≢ b) (map (hop_to pools) hops)

-- a hop over another pool that leads elsewhere
abbrev pub IsApart : List ProblemPool → Hop → Hop → Type 0
IsApart pools hop passed = (passed.pool ≢ hop.pool) × (hop_to pools passed ≢ hop_to pools hop)

-- what hops give on each of the 52 powers of two
pub record AreGiven (pools : List ProblemPool) (hops : List Hop) (amounts : List ℕ) : Type 0 where
  pub long : length amounts ≡ 52
  pub each : (e : ℕ) → e < 52 → slice_index amounts e ≡ gives pools hops (2 ^ e)
  pub below : (e : ℕ) → e < 52 → slice_index amounts e < 2 ^ 52

-- hops that bring more than some power of two
abbrev pub StandsOnPower : List ProblemPool → List Hop → Type 0
StandsOnPower pools hops = (e : ℕ) × (e ≤ 51) × StandsOn pools hops (2 ^ e)

-- a cycle that stands on a power of two, an input, and its profit on it
pub record IsStanding (pools : List ProblemPool) (t : Name) (found : Found) : Type 0 where
  pub count : found.chain.count ≤ 4
  pub cycle : IsCycle pools t (hops_of found.chain)
  pub power : StandsOnPower pools (hops_of found.chain)
  pub input : found.x < 2 ^ 52
  pub some : 1 ≤ found.profit
  pub is : found.profit ≡ profit pools (hops_of found.chain) found.x

abbrev pub IsFound : List ProblemPool → Name → Found → Type 0
IsFound pools t found = (found.profit ≡ 0) ⊎ IsStanding pools t found

-- these hops bring at most so much more than a power of two
abbrev pub IsMost : List ProblemPool → List Hop → (most : ℕ) → Type 0
IsMost pools hops most = (e : ℕ) → e ≤ 51 → profit pools hops (2 ^ e) ≤ most

-- and so does each cycle that begins with these hops and goes on over the pool at a place
abbrev pub IsMostOver : List ProblemPool → Name → List Hop → (most i : ℕ) → Type 0
IsMostOver pools t begun most i =
    (hop : Hop) (rest : List Hop) → hop.pool ≡ i → IsCycle pools t (begun ++ hop ∷ rest) → IsMost pools (begun ++ hop ∷ rest) most

abbrev pub IsMostBelow : List ProblemPool → Name → List Hop → (most n : ℕ) → Type 0
IsMostBelow pools t begun most n = (i : ℕ) → i < n → IsMostOver pools t begun most i
