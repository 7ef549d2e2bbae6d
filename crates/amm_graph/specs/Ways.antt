-- The walk that finds all paths: hop by hop, at each token the pools in their order.
use Rattle.std.specs.Prelude.{ℕ, zero, suc, ◌^◌, Bool, ◌&&◌, nat_lt, List, [], ◌∷◌, ◌++◌, length, map, slice_index_or, Option, Some, None, true, false, if◌then◌else◌}
use Rattle.std.specs.Str.{bytes_eq}
use Rattle.amm_model.specs.declared.problem.ProblemPool.{ProblemPool}
use Rattle.amm_model.specs.declared.route.Hop.{Hop}
use Rattle.amm_model.specs.Routing.{no_pool, token0_of, token1_of}
use Rattle.amm_names.specs.Names.{Name}
use Rattle.amm_model.specs.Paths.{hop_to}

-- both balances have room for an update
abbrev pub is_admissible : ProblemPool → Bool
is_admissible pool = nat_lt pool.b0 (2 ^ 48) && nat_lt pool.b1 (2 ^ 48)

-- the hop over the pool at a place from a token, if the pool is admissible and has the token
unfoldable pub hop_over : List ProblemPool → Name → ℕ → Option Hop
hop_over pools at i =
    if is_admissible (slice_index_or pools i no_pool)
    then (if bytes_eq at (token0_of (slice_index_or pools i no_pool)) then Some (record { pool = i; zero_in = true })
    else (if bytes_eq at (token1_of (slice_index_or pools i no_pool)) then Some (record { pool = i; zero_in = false })
    else None))
    else None

-- the ways on from a hop to t, if it does not lead to t itself: those from the token that it leads
-- to, but for s
abbrev pub onward : (Name → List (List Hop)) → List ProblemPool → (s t : Name) → Option Hop → List (List Hop)
onward rest pools s t None = []
onward rest pools s t (Some hop) =
    if bytes_eq (hop_to pools hop) t then (hop ∷ []) ∷ []
    else (if bytes_eq (hop_to pools hop) s then [] else map (λ (hops : List Hop). hop ∷ hops) (rest (hop_to pools hop)))

-- the ways from a token whose first hop is over the pool at a place
abbrev pub through : (Name → List (List Hop)) → List ProblemPool → (s t at : Name) → ℕ → List (List Hop)
through rest pools s t at i = onward rest pools s t (hop_over pools at i)

-- the lists at all numbers below one, one after the other
abbrev pub joined : {X : Type 0} → (ℕ → List X) → ℕ → List X
joined f zero = []
joined f (suc n) = joined f n ++ f n

-- the ways of at most n hops from a token to t
unfoldable pub ways : ℕ → List ProblemPool → (s t at : Name) → List (List Hop)
ways zero pools s t at = []
ways (suc n) pools s t at = joined (through (ways n pools s t) pools s t at) (length pools)

-- the same hops before each list
abbrev pub behind : List Hop → List (List Hop) → List (List Hop)
behind begun lists = map (λ (hops : List Hop). begun ++ hops) lists
