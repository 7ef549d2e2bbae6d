-- Cycles: chains of trades that start and end in one token, and bring more than they take.
use Rattle.std.specs.Prelude.{ℕ, ◌≡◌, ◌≢◌, ◌-◌, ◌<◌, ◌≤◌, ◌^◌, List, [], ◌∷◌, length, map, All, AllPairs, if◌then◌else◌}
use Rattle.amm_names.specs.declared.holder.Holder.TheVariants as holder
use Rattle.amm_names.specs.declared.holder.Asset.TheVariants as asset
use Rattle.amm_names.specs.Names.{Name}
use Rattle.amm_model.specs.declared.problem.ProblemPool.{ProblemPool}
use Rattle.amm_model.specs.declared.route.Hop.{Hop}
use Rattle.amm_model.specs.declared.route.Leg.{Leg}
use Rattle.amm_model.specs.Legs.{leg_pool, token_in}
use Rattle.amm_model.specs.Paths.{IsHop, Leads, hop_places, hop_to, gives, legs_along}
use Rattle.amm_model.specs.Routing.{OpenView, IsOpenProblem}
use Rattle.amm_model.specs.Bound.{bound_of}
use Rattle.amm_model.specs.Settled.{IsSettled}
use Rattle.amm_model.specs.declared.route.OpenQuote.{OpenQuote}
use Rattle.amm_model.specs.CommandView as view
use Rattle.amm_model.specs.CommandView.{Move, Moves}

-- A cycle: two to four different admissible pools from t back to t, where t stands at the ends
-- alone and no other token comes twice.
pub record IsCycle (pools : List ProblemPool) (t : Name) (hops : List Hop) : Type 0 where
  pub short : (2 ≤ length hops) × (length hops ≤ 4)
  pub over : All (IsHop pools) hops
  pub different : AllPairs (λ (a b : ℕ). a ≢ b) (hop_places hops)
  pub leads : Leads pools t hops t
  pub simple : AllPairs (λ (a b : Name). a ≢ b) (map (hop_to pools) hops)

-- A cycle brings more than the input.
abbrev pub StandsOn : List ProblemPool → List Hop → ℕ → Type 0
StandsOn pools hops x = x < gives pools hops x

abbrev pub profit : List ProblemPool → List Hop → ℕ → ℕ
profit pools hops x = gives pools hops x - x

-- The profit of some cycle on some power of two, of those up to 2^51.
pub record IsCycleValue (pools : List ProblemPool) (t : Name) (value : ℕ) : Type 0 where
  pub hops : List Hop
  pub e : ℕ
  pub is_cycle : IsCycle pools t hops
  pub size : e ≤ 51
  pub stands : StandsOn pools hops (2 ^ e)
  pub given : value ≡ profit pools hops (2 ^ e)

-- The legs of a cycle for some input on which it stands, with the profit on it.
pub record IsCycleTrade (pools : List ProblemPool) (t : Name) (legs : List Leg) (gain : ℕ) : Type 0 where
  pub hops : List Hop
  pub x : ℕ
  pub is_cycle : IsCycle pools t hops
  pub stands : StandsOn pools hops x
  pub legs_of : legs ≡ legs_along pools hops x
  pub gained : gain ≡ profit pools hops x

-- No cycle brings anything on any power of two.
abbrev pub HasNoCycle : OpenView → Type 0
HasNoCycle problem = (value : ℕ) → IsCycleValue problem.pools problem.t value → ⊥

-- A quote of a cycle: its prices are settled, its bound is that of its prices, its legs are those
-- of a cycle for some input, with its profit, and this is at least every cycle value.
pub record IsCycleAnswer (quote : OpenQuote) : Type 0 where
  pub problem : IsOpenProblem quote.problem
  pub settled : IsSettled quote.problem quote.prices
  pub bound : quote.bound ≡ bound_of quote.problem quote.prices
  pub trade : IsCycleTrade quote.problem.pools quote.problem.t quote.route.legs quote.delivered
  pub values : (value : ℕ) → IsCycleValue quote.problem.pools quote.problem.t value → value ≤ quote.delivered

-- What a leg owes: its input goes from the borrower to the leg's pool.
abbrev pub payment : List ProblemPool → Leg → Moves
payment pools leg = view.move (view.transfer (asset.Token (token_in pools leg)) (holder.Pool (leg_pool pools leg).name) leg.input) view.no_moves

-- The loan of a leg's output, within which these steps run.
abbrev pub loan : List ProblemPool → Leg → Moves → Move
loan pools leg = view.flash (leg_pool pools leg).name (if leg.zero_in then 0 else leg.output) (if leg.zero_in then leg.output else 0)

-- Each pool lends its output before it is paid: within the loan of a leg those of the later legs
-- run, and then the leg's input is paid.
unfoldable pub nested_loans : List ProblemPool → Leg → List Leg → Move
nested_loans pools leg [] = loan pools leg (payment pools leg)
nested_loans pools leg (next ∷ later) = loan pools leg (view.move (nested_loans pools next later) (payment pools leg))
