-- A problem with prices that change one by one.
use Rattle.std.specs.Prelude.{ℕ, List, ◌≡◌, ◌+◌, ◌*◌, ◌≤◌, ◌^◌, slice_set, sum_by, take}
use Rattle.amm_model.specs.Routing.{OpenView}
use Rattle.amm_model.specs.Bound.{pool_worth}
use Rattle.amm_dual.specs.declared.changes.Changes.{Changes}
use Rattle.amm_dual.specs.declared.running.Balance.{Balance}

pub record RunningView : Type 0 where
  pub problem : OpenView
  pub prices : List ℕ

-- The prices after two changes, one after the other.
abbrev pub after : List ℕ → Changes → List ℕ
after prices changes = slice_set (slice_set prices changes.first.place changes.first.price) changes.second.place changes.second.price

-- What the pools before a place are worth more after the changes, and less: some of what is alike
-- on both sides may be left out.
pub record IsBalance (problem : OpenView) (prices : List ℕ) (changes : Changes) (i : ℕ) (balance : Balance) : Type 0 where
  pub even : balance.gained + sum_by (pool_worth problem.tokens prices) (take i problem.pools) ≡ balance.lost + sum_by (pool_worth problem.tokens (after prices changes)) (take i problem.pools)
  pub few_gained : balance.gained ≤ i * 2 ^ 99
  pub few_lost : balance.lost ≤ i * 2 ^ 99
