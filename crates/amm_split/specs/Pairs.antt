-- Pairs of paths without a common pool, and what they give by two tables.
use Rattle.std.specs.Prelude.{ℕ, ◌≡◌, ◌+◌, ◌<◌, ◌≤◌, false, List, length, slice_index, slice_index_or}
use Rattle.amm_model.specs.Paths.{AreApart, hop_places}
use Rattle.amm_graph.specs.declared.path.Path.{Path}
use Rattle.amm_graph.specs.Hops.{hops_of}
use Rattle.amm_split.specs.declared.pairs.Pick.{Pick}

-- stands where a list of paths has none
abbrev pub no_path : Path
no_path = record {
  count = 0;
  hop0 = record { pool = 0; zero_in = false };
  hop1 = record { pool = 0; zero_in = false };
  hop2 = record { pool = 0; zero_in = false };
}

-- the paths at two places have no pool in common
abbrev pub AreApartAt : List Path → (i j : ℕ) → Type 0
AreApartAt paths i j = AreApart (hop_places (hops_of (slice_index_or paths i no_path))) (hop_places (hops_of (slice_index_or paths j no_path)))

-- what two paths without a common pool give, each something
pub record IsPair (paths : List Path) (firsts seconds : List ℕ) (pick : Pick) : Type 0 where
  pub first : pick.first < length paths
  pub second : pick.second < length paths
  pub apart : AreApartAt paths pick.first pick.second
  pub some_first : 1 ≤ slice_index firsts pick.first
  pub some_second : 1 ≤ slice_index seconds pick.second
  pub sum : pick.amount ≡ slice_index firsts pick.first + slice_index seconds pick.second

-- no pair of the path at i with one of the first j gives more than the bound
abbrev pub PartnersBelow : List Path → (firsts seconds : List ℕ) → (bound i j : ℕ) → Type 0
PartnersBelow paths firsts seconds bound i j =
    (q : ℕ) → q < j → AreApartAt paths i q → 1 ≤ slice_index firsts i → 1 ≤ slice_index seconds q → slice_index firsts i + slice_index seconds q ≤ bound

-- no pair of one of the first i paths gives more
abbrev pub PairsBelow : List Path → (firsts seconds : List ℕ) → (bound i : ℕ) → Type 0
PairsBelow paths firsts seconds bound i = (p : ℕ) → p < i → PartnersBelow paths firsts seconds bound p (length paths)
