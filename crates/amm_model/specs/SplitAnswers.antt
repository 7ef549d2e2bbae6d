-- Which quotes answer a split, and when there is none.
use Rattle.std.specs.Prelude.{ℕ, ◌≡◌}
use Rattle.amm_model.specs.Routing.{ProblemView, IsProblem, open_view}
use Rattle.amm_model.specs.Bound.{bound_of}
use Rattle.amm_model.specs.Legs.{Delivers}
use Rattle.amm_model.specs.Settled.{IsSettled}
use Rattle.amm_model.specs.Values.{IsOneOrTwoWayValue, AtLeastTheWays}
use Rattle.amm_model.specs.Spreads.{AtLeastSpreads}
use Rattle.amm_model.specs.declared.route.Quote.{Quote}

-- A quote that answers the split of its problem: its problem is one, its prices are settled, its
-- bound is that of its prices, its legs deliver its amount, and this is at least every one-way,
-- two-way and spread value. Route and prices are free within this.
pub record IsSplitAnswer (quote : Quote) : Type 0 where
  pub problem : IsProblem quote.problem
  pub settled : IsSettled (open_view quote.problem) quote.prices
  pub bound : quote.bound ≡ bound_of (open_view quote.problem) quote.prices
  pub delivers : Delivers (open_view quote.problem) quote.route.legs quote.delivered
  pub ways : AtLeastTheWays quote.problem.pools quote.problem.s quote.problem.t quote.problem.d quote.delivered
  pub spreads : AtLeastSpreads quote.problem quote.prices quote.delivered

-- Nothing can be routed: no path gives anything on any number of sixteenths.
abbrev pub HasNoRoute : ProblemView → Type 0
HasNoRoute problem = (value : ℕ) → IsOneOrTwoWayValue problem.pools problem.s problem.t problem.d value → ⊥
