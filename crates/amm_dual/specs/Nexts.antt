-- The pools that have a token, as a change of its price comes to them.
use Rattle.std.specs.Prelude.{ℕ, ◌≡◌, ◌≢◌, ◌<◌, ◌≤◌, List, [], length, map, slice_index, slice_index_or}
use Rattle.amm_model.specs.declared.problem.TokenPlaces.{TokenPlaces}
use Rattle.amm_model.specs.Routing.{OpenView, places_of}
use Rattle.amm_dual.specs.declared.nexts.Nexts.{Nexts}

abbrev pub no_places : TokenPlaces
no_places = record { zero = 0; one = 0 }

-- neither token of the pool at the place is this one
pub record Lacks (places : List TokenPlaces) (token k : ℕ) : Type 0 where
  pub zero : (slice_index_or places k no_places).zero ≢ token
  pub one : (slice_index_or places k no_places).one ≢ token

-- no pool from one place on to before another has the token
pub record IsNext (places : List TokenPlaces) (token i next : ℕ) : Type 0 where
  pub after : i ≤ next
  pub within : next ≤ length places
  pub none : (k : ℕ) → i ≤ k → k < next → Lacks places token k

-- so for each place from a first on
pub record AreNextsFrom (places : List TokenPlaces) (token first : ℕ) (nexts : List ℕ) : Type 0 where
  pub long : length nexts ≡ 257
  pub each : (i : ℕ) → first ≤ i → i ≤ length places → IsNext places token i (slice_index nexts i)

abbrev pub no_nexts : Nexts
no_nexts = record { places = [] }

pub record AreNexts (problem : OpenView) (nexts : List Nexts) : Type 0 where
  pub many : length nexts ≡ length problem.tokens
  pub each : (token : ℕ) → token < length problem.tokens → AreNextsFrom (map (places_of problem.tokens) problem.pools) token 0 (slice_index_or nexts token no_nexts).places

-- no pool from one place on to before another has either token
pub record IsNextOfBoth (places : List TokenPlaces) (first second i next : ℕ) : Type 0 where
  pub after : i ≤ next
  pub within : next ≤ length places
  pub none : (k : ℕ) → i ≤ k → k < next → Lacks places first k × Lacks places second k
