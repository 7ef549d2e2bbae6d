-- What is at least a spread value stays so while what is kept grows.
use Rattle.std.proofs.Common.{◌≡◌, ℕ, ◌≤◌, List, arith, subst}
use Rattle.std.specs.Prelude.{sum_by}
use Rattle.amm_model.specs.declared.route.Leg.{Leg}
use Rattle.amm_model.specs.declared.route.Quote.{Quote}
use Rattle.amm_model.specs.Routing.{IsProblem, ProblemView, open_view}
use Rattle.amm_model.specs.Legs.{Delivers}
use Rattle.amm_model.specs.Bound.{bound_of}
use Rattle.amm_model.specs.Settled.{IsSettled}
use Rattle.amm_model.specs.SplitAnswers.{IsSplitAnswer}
use Rattle.amm_model.specs.Values.{AtLeastTheWays}
use Rattle.amm_model.specs.Spreads.{AtLeastSpread, AtLeastSpreads, Spread, share_output, shares_at_prices}
use Rattle.amm_split.specs.declared.shares.Terms.{Terms}
use Rattle.amm_split.specs.Shares.{IsSpreadRoute, equal_terms, terms_at}
use Rattle.amm_split.proofs.Determined.{at-least-each}
use Rattle.amm_split.proofs.Taken.{spread_over}

-- at least what the legs of a spread deliver
pub of_legs : (problem : ProblemView) (spread : Spread) (legs : List Leg) (amount : ℕ) → IsSpreadRoute problem spread legs →
    ((value : ℕ) → Delivers (open_view problem) legs value → value ≤ amount) → AtLeastSpread spread amount
of_legs problem spread legs amount is least = at-least-each spread is.shares amount is.taken (least (sum_by (share_output spread) is.shares) is.delivers)

pub still : (spread : Spread) (less amount : ℕ) → less ≤ amount → AtLeastSpread spread less → AtLeastSpread spread amount
still spread less amount more at value is = let least = at value is in omega arith

-- from terms to the spreads of the definitions
pub of_equal : (problem : ProblemView) (terms : Terms) (d size amount : ℕ) → terms ≡ equal_terms d size → d ≡ problem.d →
    AtLeastSpread (spread_over problem terms) amount → AtLeastSpread (spread_over problem (equal_terms problem.d size)) amount
of_equal problem terms d size amount is same at =
    subst (λ (e : ℕ). AtLeastSpread (spread_over problem (equal_terms e size)) amount) same (subst (λ (t : Terms). AtLeastSpread (spread_over problem t) amount) is at)

pub of_prices : (problem : ProblemView) (prices : List ℕ) (terms : Terms) (amount : ℕ) → terms ≡ terms_at problem prices →
    AtLeastSpread (spread_over problem terms) amount → AtLeastSpread (shares_at_prices problem prices) amount
of_prices problem prices terms amount is at = subst (λ (t : Terms). AtLeastSpread (spread_over problem t) amount) is at

-- ways stay below as well
pub ways_still : (problem : ProblemView) (less amount : ℕ) → less ≤ amount → AtLeastTheWays problem.pools problem.s problem.t problem.d less → AtLeastTheWays problem.pools problem.s problem.t problem.d amount
ways_still problem less amount more at value is = let least = at value is in omega arith

-- a quote of the problem that has all that an answer needs
pub answers : (problem : ProblemView) (quote : Quote) → IsProblem problem → quote.problem ≡ problem → IsSettled (open_view problem) quote.prices → quote.bound ≡ bound_of (open_view problem) quote.prices →
    Delivers (open_view problem) quote.route.legs quote.delivered → AtLeastTheWays problem.pools problem.s problem.t problem.d quote.delivered → AtLeastSpreads problem quote.prices quote.delivered → IsSplitAnswer quote
answers problem quote sound same settled bound delivers ways spreads = record {
  problem = rw same sound;
  settled = rw same settled;
  bound = rw same bound;
  delivers = rw same delivers;
  ways = rw same ways;
  spreads = rw same spreads;
}
