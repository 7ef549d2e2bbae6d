-- Shares of an amount on paths of a list, judged by rows of what each path gives.
use Rattle.std.specs.Prelude.{ℕ, ◌≡◌, ◌-◌, ◌*◌, ◌<◌, ◌≤◌, ◌^◌, ◌⊎◌, List, [], length, slice_index, slice_index_or, sum_by}
use Rattle.amm_model.specs.declared.problem.ProblemPool.{ProblemPool}
use Rattle.amm_model.specs.declared.route.Hop.{Hop}
use Rattle.amm_model.specs.declared.route.Leg.{Leg}
use Rattle.amm_model.specs.Routing.{ProblemView, open_view}
use Rattle.amm_names.specs.Names.{Name}
use Rattle.amm_model.specs.Bound.{price_of}
use Rattle.amm_model.specs.Legs.{Delivers}
use Rattle.amm_model.specs.Paths.{AreApart, gives, hop_places}
use Rattle.amm_model.specs.Spreads.{AreTaken, Share, Spread, share_output}
use Rattle.amm_model.specs.Values.{sixteenths}
use Rattle.amm_graph.specs.declared.path.Path.{Path}
use Rattle.amm_graph.specs.Hops.{hops_of}
use Rattle.amm_split.specs.declared.rows.Row.{Row}
use Rattle.amm_split.specs.declared.shares.Terms.{Terms}
use Rattle.amm_split.specs.declared.shares.Offer.{Offer}
use Rattle.amm_split.specs.declared.shares.Choice.{Choice}
use Rattle.amm_split.specs.Pairs.{no_path}

-- what a path gives on each number of sixteenths
pub record IsRow (pools : List ProblemPool) (hops : List Hop) (d : ℕ) (amounts : List ℕ) : Type 0 where
  pub long : length amounts ≡ 17
  pub given : (k : ℕ) → k < 17 → slice_index amounts k ≡ gives pools hops (sixteenths d k)
  pub below : (k : ℕ) → slice_index amounts k < 2 ^ 48

-- stands where a list of rows has none
abbrev pub no_row : Row
no_row = record { amounts = [] }

abbrev pub amounts_at : List Row → ℕ → List ℕ
amounts_at rows i = (slice_index_or rows i no_row).amounts

abbrev pub hops_at : List Path → ℕ → List Hop
hops_at paths i = hops_of (slice_index_or paths i no_path)

-- a row for each path
pub record AreRows (pools : List ProblemPool) (paths : List Path) (d : ℕ) (rows : List Row) : Type 0 where
  pub many : length rows ≡ length paths
  pub each : (i : ℕ) → i < length paths → IsRow pools (hops_at paths i) d (amounts_at rows i)

-- the rows are long enough, and their amounts are those of a pool
pub record AreWide (rows : List Row) (n : ℕ) : Type 0 where
  pub many : length rows ≡ n
  pub long : (i : ℕ) → i < n → length (amounts_at rows i) ≡ 17
  pub below : (i k : ℕ) → i < n → slice_index (amounts_at rows i) k < 2 ^ 48

-- terms within their ranges
pub record AreTerms (terms : Terms) : Type 0 where
  pub d : terms.d < 2 ^ 52
  pub least : 1 ≤ terms.least
  pub most : terms.most ≤ 16
  pub price_in : terms.price_in < 2 ^ 40
  pub price_out : terms.price_out < 2 ^ 40

-- what is spread on these terms
abbrev pub spread_on : List ProblemPool → (from to : Name) → Terms → Spread
spread_on pools from to terms = record {
  pools = pools;
  from = from;
  to = to;
  d = terms.d;
  least = terms.least;
  most = terms.most;
  price_in = terms.price_in;
  price_out = terms.price_out;
}

-- what so many sixteenths gain by a row
abbrev pub gain_on : Terms → List ℕ → ℕ → ℕ
gain_on terms amounts size = terms.price_out * slice_index amounts size - terms.price_in * sixteenths terms.d size

-- a size that the terms allow and that is still left
abbrev pub Fits : Terms → ℕ → ℕ → Type 0
Fits terms left size = (terms.least ≤ size) × (size ≤ terms.most) × (size ≤ left)

-- the size that gains most, and the least of those; a gain of 0 where none gains
pub record IsOffer (terms : Terms) (left : ℕ) (amounts : List ℕ) (offer : Offer) : Type 0 where
  pub found : 1 ≤ offer.gain → Fits terms left offer.size × (offer.gain ≡ gain_on terms amounts offer.size)
  pub most : (k : ℕ) → Fits terms left k → gain_on terms amounts k ≤ offer.gain
  pub least : (k : ℕ) → Fits terms left k → 1 ≤ offer.gain → gain_on terms amounts k ≡ offer.gain → offer.size ≤ k

abbrev pub IsFreeAt : List ℕ → List Path → ℕ → Type 0
IsFreeAt used paths i = AreApart (hop_places (hops_at paths i)) used

-- of the first paths the one without a used pool, and its size, that gain most: the first of those,
-- and then the least; a gain of 0 where none gains
pub record IsBest (terms : Terms) (left : ℕ) (used : List ℕ) (paths : List Path) (rows : List Row) (count : ℕ) (best : Choice) : Type 0 where
  pub found : 1 ≤ best.gain → (best.path < count) × IsFreeAt used paths best.path × Fits terms left best.size × (best.gain ≡ gain_on terms (amounts_at rows best.path) best.size)
  pub most : (i k : ℕ) → i < count → IsFreeAt used paths i → Fits terms left k → gain_on terms (amounts_at rows i) k ≤ best.gain
  pub first : (i k : ℕ) → i < count → IsFreeAt used paths i → Fits terms left k → 1 ≤ best.gain → gain_on terms (amounts_at rows i) k ≡ best.gain →
      (best.path < i) ⊎ ((best.path ≡ i) × (best.size ≤ k))

-- legs that deliver what the shares give that are taken one after the other
pub record IsSpreadRoute (problem : ProblemView) (spread : Spread) (legs : List Leg) : Type 0 where
  pub shares : List Share
  pub taken : AreTaken spread 16 [] shares
  pub delivers : Delivers (open_view problem) legs (sum_by (share_output spread) shares)

-- shares of so many sixteenths, each where it gives most
abbrev pub equal_terms : (d size : ℕ) → Terms
equal_terms d size = record { d = d; least = size; most = size; price_in = 0; price_out = 1 }

-- shares of any size, each where it gains most at the prices
abbrev pub terms_at : ProblemView → List ℕ → Terms
terms_at problem prices = record {
  d = problem.d;
  least = 1;
  most = 16;
  price_in = price_of problem.tokens prices problem.s;
  price_out = price_of problem.tokens prices problem.t;
}
