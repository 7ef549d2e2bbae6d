-- Paths of one to three pools from one token to another, and what a path gives for an input.
use Rattle.std.specs.Prelude.{ℕ, ◌≡◌, ◌≢◌, ◌+◌, ◌<◌, ◌≤◌, ◌^◌, ◌⊎◌, List, [], ◌∷◌, length, map, slice_index_or, All, AllPairs, Contains, nat_lt, if◌then◌else◌}
use Rattle.amm_model.specs.Swap.{amount_out_of}
use Rattle.amm_model.specs.declared.problem.ProblemPool.{ProblemPool}
use Rattle.amm_model.specs.declared.route.Hop.{Hop}
use Rattle.amm_model.specs.declared.route.Leg.{Leg}
use Rattle.amm_model.specs.Routing.{no_pool, fee_of, token0_of, token1_of}
use Rattle.amm_names.specs.Names.{Name}
use Rattle.amm_model.specs.Legs.{IsAdmissible}

-- The pool of a hop, and the tokens that go in and come out.
abbrev pub hop_pool : List ProblemPool → Hop → ProblemPool
hop_pool pools hop = slice_index_or pools hop.pool no_pool

abbrev pub hop_from : List ProblemPool → Hop → Name
hop_from pools hop = if hop.zero_in then token0_of (hop_pool pools hop) else token1_of (hop_pool pools hop)

abbrev pub hop_to : List ProblemPool → Hop → Name
hop_to pools hop = if hop.zero_in then token1_of (hop_pool pools hop) else token0_of (hop_pool pools hop)

-- A hop over an admissible pool.
pub record IsHop (pools : List ProblemPool) (hop : Hop) : Type 0 where
  pub there : hop.pool < length pools
  pub admissible : IsAdmissible (hop_pool pools hop)

-- Each hop takes in what the one before gave: from one token to another.
abbrev pub Leads : List ProblemPool → Name → List Hop → Name → Type 0
Leads pools first [] last = first ≡ last
Leads pools first (hop ∷ hops) last = (hop_from pools hop ≡ first) × Leads pools (hop_to pools hop) hops last

-- The places of the pools of hops.
abbrev pub hop_places : List Hop → List ℕ
hop_places hops = map (λ (hop : Hop). hop.pool) hops

-- A path: one to three different admissible pools from the one token to the other, where no token
-- comes twice.
pub record IsPath (pools : List ProblemPool) (from to : Name) (hops : List Hop) : Type 0 where
  pub short : (1 ≤ length hops) × (length hops ≤ 3)
  pub over : All (IsHop pools) hops
  pub different : AllPairs (λ (a b : ℕ). a ≢ b) (hop_places hops)
  pub leads : Leads pools from hops to
  pub simple : AllPairs (λ (a b : Name). a ≢ b) (from ∷ map (hop_to pools) hops)

-- Of two lists of pool places, that one comes first which has the lower place where they first
-- differ.
abbrev pub ComesBefore : List ℕ → List ℕ → Type 0
ComesBefore [] qs = ⊥
ComesBefore (p ∷ ps) [] = ⊥
ComesBefore (p ∷ ps) (q ∷ qs) = (p < q) ⊎ ((p ≡ q) × ComesBefore ps qs)

-- No pool of the one list is in the other.
abbrev pub AreApart : List ℕ → List ℕ → Type 0
AreApart ps qs = All (λ (p : ℕ). All (λ (q : ℕ). p ≢ q) qs) ps

-- What a side of a pool pays for x; 0 where its balance has no room for x.
abbrev pub side_gives : (fee balance rin rout x : ℕ) → ℕ
side_gives fee balance rin rout x = if nat_lt (balance + x) (2 ^ 48) then amount_out_of fee x rin rout else 0

abbrev pub hop_gives : List ProblemPool → Hop → ℕ → ℕ
hop_gives pools hop x =
    if hop.zero_in
    then side_gives (fee_of (hop_pool pools hop)) (hop_pool pools hop).b0 (hop_pool pools hop).r0 (hop_pool pools hop).r1 x
    else side_gives (fee_of (hop_pool pools hop)) (hop_pool pools hop).b1 (hop_pool pools hop).r1 (hop_pool pools hop).r0 x

-- What a path gives for x; 0 where it gives nothing, since nothing in is nothing out.
abbrev pub gives : List ProblemPool → List Hop → ℕ → ℕ
gives pools [] x = x
gives pools (hop ∷ hops) x = gives pools hops (hop_gives pools hop x)

-- What a hop is as a leg, for an input, and what a path is for its first.
abbrev pub leg_of_hop : List ProblemPool → Hop → ℕ → Leg
leg_of_hop pools hop x = record { pool = hop.pool; zero_in = hop.zero_in; input = x; output = hop_gives pools hop x }

abbrev pub legs_along : List ProblemPool → List Hop → ℕ → List Leg
legs_along pools [] x = []
legs_along pools (hop ∷ hops) x = leg_of_hop pools hop x ∷ legs_along pools hops (hop_gives pools hop x)

-- All paths, each once, in the order of their places.
pub record AreAllPaths (pools : List ProblemPool) (from to : Name) (paths : List (List Hop)) : Type 0 where
  pub sound : All (IsPath pools from to) paths
  pub complete : (path : List Hop) → IsPath pools from to path → Contains paths path
  pub ordered : AllPairs (λ (a b : List Hop). ComesBefore (hop_places a) (hop_places b)) paths
