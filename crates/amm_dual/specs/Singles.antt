-- What all pools are worth after moves of one token, kept while the prices stay.
use Rattle.std.specs.Prelude.{ℕ, ◌≡◌, ◌+◌, ◌*◌, ◌/◌, ◌<◌, ◌≤◌, ◌^◌, ◌⊎◌, List, length, slice_index_or, slice_set, sum_by, take}
use Rattle.amm_model.specs.declared.problem.ProblemPool.{ProblemPool}
use Rattle.amm_model.specs.declared.problem.TokenPlaces.{TokenPlaces}
use Rattle.amm_model.specs.Routing.{OpenView}
use Rattle.amm_model.specs.Bound.{pool_worth}
use Rattle.amm_dual.specs.declared.changes.Changes.{Changes}
use Rattle.amm_dual.specs.declared.running.Balance.{Balance}
use Rattle.amm_dual.specs.declared.singles.Single.{Single}
use Rattle.amm_dual.specs.Nexts.{Lacks}
use Rattle.amm_dual.specs.Running.{after}

-- the worths of all pools, together
abbrev pub worths_at : OpenView → List ℕ → ℕ
worths_at problem prices = sum_by (pool_worth problem.tokens prices) problem.pools

abbrev pub no_single : Single
no_single = record { price = 0; worths = 0 }

-- what is kept at a price of the token at the place; a price of 0: nothing
pub record IsSingle (problem : OpenView) (prices : List ℕ) (place : ℕ) (single : Single) : Type 0 where
  pub worths : 1 ≤ single.price → single.worths ≡ worths_at problem (slice_set prices place single.price)
  pub below : single.worths < 2 ^ 107 + 1

-- thirty-two for each token
pub record AreSingles (problem : OpenView) (prices : List ℕ) (singles : List Single) : Type 0 where
  pub many : length singles ≡ 32 * length problem.tokens
  pub each : (j : ℕ) → j < length singles → IsSingle problem prices (j / 32) (slice_index_or singles j no_single)

-- no pool from one place on to before another has both tokens
pub record IsNextShared (places : List TokenPlaces) (first second i next : ℕ) : Type 0 where
  pub after : i ≤ next
  pub within : next ≤ length places
  pub none : (k : ℕ) → i ≤ k → k < next → Lacks places first k ⊎ Lacks places second k

-- what a pool is worth after each change alone, together; and after both and now, together
abbrev pub worths_apart : OpenView → List ℕ → Changes → ProblemPool → ℕ
worths_apart problem prices changes pool =
    pool_worth problem.tokens (slice_set prices changes.first.place changes.first.price) pool + pool_worth problem.tokens (slice_set prices changes.second.place changes.second.price) pool

abbrev pub worths_joined : OpenView → List ℕ → Changes → ProblemPool → ℕ
worths_joined problem prices changes pool = pool_worth problem.tokens (after prices changes) pool + pool_worth problem.tokens prices pool

-- What both changes make of the pools before a place, beside what each makes of them alone: some of
-- what is alike on both sides may be left out.
pub record IsShared (problem : OpenView) (prices : List ℕ) (changes : Changes) (i : ℕ) (balance : Balance) : Type 0 where
  pub even : balance.gained + sum_by (worths_apart problem prices changes) (take i problem.pools) ≡ balance.lost + sum_by (worths_joined problem prices changes) (take i problem.pools)
  pub few_gained : balance.gained ≤ i * 2 ^ 100
  pub few_lost : balance.lost ≤ i * 2 ^ 100
