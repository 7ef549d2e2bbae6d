-- What a split answer has to deliver at least, beside one-way and two-way values: the amount spread
-- over several paths, share after share, each where it gains most.
use Rattle.std.specs.Prelude.{ℕ, ◌≡◌, ◌-◌, ◌*◌, ◌/◌, ◌<◌, ◌≤◌, ◌≢◌, ◌⊎◌, ◌++◌, List, [], ◌∷◌, sum_by}
use Rattle.amm_model.specs.Routing.{ProblemView}
use Rattle.amm_names.specs.Names.{Name}
use Rattle.amm_model.specs.Bound.{price_of}
use Rattle.amm_model.specs.declared.problem.ProblemPool.{ProblemPool}
use Rattle.amm_model.specs.declared.route.Hop.{Hop}
use Rattle.amm_model.specs.Paths.{IsPath, ComesBefore, AreApart, hop_places, gives}
use Rattle.amm_model.specs.Values.{sixteenths}

-- A path with some sixteenths of the amount.
pub record Share : Type 0 where
  pub path : List Hop
  pub parts : ℕ

-- What is spread: d of one token brought to another over pools. A share has `least` to `most`
-- sixteenths, and is judged at a price of what it brings in and one of what it gives.
pub record Spread : Type 0 where
  pub pools : List ProblemPool
  pub from : Name
  pub to : Name
  pub d : ℕ
  pub least : ℕ
  pub most : ℕ
  pub price_in : ℕ
  pub price_out : ℕ

abbrev pub share_input : Spread → Share → ℕ
share_input spread share = sixteenths spread.d share.parts

abbrev pub share_output : Spread → Share → ℕ
share_output spread share = gives spread.pools share.path (share_input spread share)

-- What a share is worth more than it costs; 0 where it is worth no more.
abbrev pub gain : Spread → Share → ℕ
gain spread share = spread.price_out * share_output spread share - spread.price_in * share_input spread share

-- A share that can be taken: of a size that is allowed and still left, over pools that no share
-- before has.
pub record CanBeTaken (spread : Spread) (left : ℕ) (used : List ℕ) (share : Share) : Type 0 where
  pub path : IsPath spread.pools spread.from spread.to share.path
  pub size : (spread.least ≤ share.parts) × (share.parts ≤ spread.most)
  pub within : share.parts ≤ left
  pub apart : AreApart (hop_places share.path) used

-- The greater gain comes first; among equals the path that comes first, and then the fewer
-- sixteenths.
abbrev pub IsPreferred : Spread → Share → Share → Type 0
IsPreferred spread a b =
    (gain spread b < gain spread a)
    ⊎ ((gain spread a ≡ gain spread b) × ComesBefore (hop_places a.path) (hop_places b.path))
    ⊎ ((gain spread a ≡ gain spread b) × (a.path ≡ b.path) × (a.parts ≤ b.parts))

-- The shares that are taken one after the other: each gains and is preferred to all that could be
-- taken in its place, and at the end none that could still be taken gains.
abbrev pub AreTaken : Spread → (left : ℕ) → (used : List ℕ) → List Share → Type 0
AreTaken spread left used [] = (other : Share) → CanBeTaken spread left used other → gain spread other ≡ 0
AreTaken spread left used (share ∷ shares) =
    CanBeTaken spread left used share × (1 ≤ gain spread share)
    × ((other : Share) → CanBeTaken spread left used other → IsPreferred spread share other)
    × AreTaken spread (left - share.parts) (used ++ hop_places share.path) shares

-- What all shares give. There is a value only where a share is taken.
pub record IsSpreadValue (spread : Spread) (value : ℕ) : Type 0 where
  pub shares : List Share
  pub some : shares ≢ []
  pub taken : AreTaken spread 16 [] shares
  pub total : value ≡ sum_by (share_output spread) shares

-- Two, four or eight equal shares, each on the path that gives most, whatever it costs.
abbrev pub equal_shares : ProblemView → ℕ → Spread
equal_shares problem count = record {
  pools = problem.pools;
  from = problem.s;
  to = problem.t;
  d = problem.d;
  least = 16 / count;
  most = 16 / count;
  price_in = 0;
  price_out = 1;
}

-- Shares of any size, each where it gains most at the prices of s and t.
abbrev pub shares_at_prices : ProblemView → List ℕ → Spread
shares_at_prices problem prices = record {
  pools = problem.pools;
  from = problem.s;
  to = problem.t;
  d = problem.d;
  least = 1;
  most = 16;
  price_in = price_of problem.tokens prices problem.s;
  price_out = price_of problem.tokens prices problem.t;
}

abbrev pub AtLeastSpread : Spread → ℕ → Type 0
AtLeastSpread spread amount = (value : ℕ) → IsSpreadValue spread value → value ≤ amount

-- At least each spread value: of two, four and eight equal shares, and of shares at the prices.
pub record AtLeastSpreads (problem : ProblemView) (prices : List ℕ) (amount : ℕ) : Type 0 where
  pub halves : AtLeastSpread (equal_shares problem 2) amount
  pub quarters : AtLeastSpread (equal_shares problem 4) amount
  pub eighths : AtLeastSpread (equal_shares problem 8) amount
  pub priced : AtLeastSpread (shares_at_prices problem prices) amount
