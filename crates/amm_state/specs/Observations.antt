-- The kept observations by their pools, as a search by time wants them.
use Rattle.std.specs.Prelude.{ℕ, ◌≡◌, suc, nat_le, List, [], ◌∷◌, Option, None, Some, if◌then◌else◌}
use Rattle.std.specs.Option.{unwrap_or, option_or}
use Rattle.std.specs.Map.{lookup}
use Rattle.std.specs.Coded.{Coded, coded_list}
use Rattle.amm_names.specs.Names.{Name}
use Rattle.amm_model.specs.declared.observation.Observation.{Observation}
use Rattle.amm_model.specs.contracts.observation.Observation as observation
use Rattle.amm_model.specs.Pools.{same_name}
use Rattle.amm_state.specs.declared.observations.Moment.{Moment}
use Rattle.amm_state.specs.contracts.observations.Moment as moment

abbrev pub observations_code : Coded (List Observation)
observations_code = coded_list observation.the_row.coded

abbrev pub moments_code : Coded (List Moment)
moments_code = coded_list moment.the_row.coded

-- when the observations of a pool were made, with their numbers; the first of all has this one
unfoldable pub moments_from : ℕ → (pool : Name) → List Observation → List Moment
moments_from number pool [] = []
moments_from number pool (o ∷ later) = if same_name pool o.pool then (record { time = o.time; number = number } ∷ moments_from (suc number) pool later) else moments_from (suc number) pool later

-- what is kept of a pool, and nothing where there is no row for it
abbrev pub moments_of : List (Name × List Moment) → (pool : Name) → List Moment
moments_of rows pool = unwrap_or (lookup (same_name pool) rows) []

-- the rows tell the moments of each pool
abbrev pub AreFiled : List (Name × List Moment) → List Observation → Type 0
AreFiled rows kept = (pool : Name) → moments_of rows pool ≡ moments_from 1 pool kept

-- the number of the last of these moments that is at a time or before
unfoldable pub last_by : (latest : ℕ) → List Moment → Option ℕ
last_by latest [] = None
last_by latest (m ∷ later) = option_or (last_by latest later) (if nat_le m.time latest then Some m.number else None)
