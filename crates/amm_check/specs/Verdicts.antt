-- Which verdict a quote has.
use Rattle.std.specs.Prelude.{ℕ, ◌≡◌, ◌≢◌, []}
use Rattle.amm_model.specs.declared.route.Quote.{Quote}
use Rattle.amm_model.specs.Routing.{amount_given, open_view}
use Rattle.amm_model.specs.Legs.{AreLegs, after_legs}
use Rattle.amm_model.specs.Bound.{bound_of}
use Rattle.amm_check.specs.declared.verdict.Verdict.{Verdict}
use Rattle.amm_check.specs.declared.verdict.Verdict.TheVariants as verdicts

-- the route is a leg-by-leg route of the problem
abbrev pub HasRoute : Quote → Type 0
HasRoute quote = AreLegs quote.problem.pools [] (amount_given (open_view quote.problem)) quote.route.legs

-- what it delivers, leg by leg
abbrev pub amount_of : Quote → ℕ
amount_of quote = after_legs quote.problem.pools (amount_given (open_view quote.problem)) quote.route.legs quote.problem.t

-- The first that is not right is told: the route, the delivered amount, the bound.
abbrev pub IsVerdict : Quote → Verdict → Type 0
IsVerdict quote verdicts.BadRoute = ¬ HasRoute quote
IsVerdict quote verdicts.BadDelivered = HasRoute quote × (amount_of quote ≢ quote.delivered)
IsVerdict quote verdicts.BadBound = HasRoute quote × (amount_of quote ≡ quote.delivered) × (bound_of (open_view quote.problem) quote.prices ≢ quote.bound)
IsVerdict quote verdicts.Yes = HasRoute quote × (amount_of quote ≡ quote.delivered) × (bound_of (open_view quote.problem) quote.prices ≡ quote.bound)
