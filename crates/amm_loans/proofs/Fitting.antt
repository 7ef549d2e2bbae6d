-- The nested loans of a chain of trades are within all limits, and its pools are there.
use Rattle.std.proofs.Common.{◌≤◌, ◌<◌, ℕ, cond, List, [], ◌∷◌, length, get_or, sym, arith, subst}
use Rattle.std.specs.Prelude.{All}
use Rattle.amm_names.specs.Names.{Name}
use Rattle.amm_model.specs.declared.limits.TheConstants.{AMOUNT_LIMIT}
use Rattle.amm_model.specs.declared.problem.ProblemPool.{ProblemPool}
use Rattle.amm_model.specs.declared.route.Hop.{Hop}
use Rattle.amm_model.specs.declared.route.Leg.{Leg}
use Rattle.amm_model.specs.CommandView.{Move}
use Rattle.amm_model.specs.Cycles.{IsCycleTrade, nested_loans}
use Rattle.amm_model.specs.Fits.{FitsMove}
use Rattle.amm_model.specs.Paths.{IsHop, hop_pool, hop_gives, gives, leg_of_hop, legs_along}
use Rattle.amm_model.specs.Routing.{OpenView, IsOpenProblem, no_pool}
use Rattle.amm_model.proofs.Problems.{fee_of-is, tokens_differ}
use Rattle.amm_settle.specs.Places.{AreThere}
use Rattle.amm_settle.proofs.Trading.{IsSoundPool}
use Rattle.amm_settle.proofs.AllLegs.{AreSoundPools}
use Rattle.amm_loans.specs.Loans.{AreLoansOf}
use Rattle.amm_loans.proofs.OneHop.{HopSide, hop_side, some_in}
use Rattle.amm_loans.proofs.Chain.{later_hops}

-- the pools of a problem
pub problem_pools : (problem : OpenView) → IsOpenProblem problem → AreSoundPools problem.pools
problem_pools problem sound = record {
  names = sound.parts.names;
  each = λ place below. record {
    apart = tokens_differ problem.pools sound.spelled.each place no_pool below;
    fee = fee_of-is (get_or problem.pools place no_pool);
    reserves = sound.parts.reserves place no_pool below;
    balances = sound.parts.balances place no_pool below;
  };
}

pub hops_there : (pools : List ProblemPool) (hops : List Hop) (x : ℕ) → All (IsHop pools) hops → AreThere pools (legs_along pools hops x)
hops_there pools [] x over = tt
hops_there pools (hop ∷ hops) x over = ((over 0 hop (omega arith)).there, hops_there pools hops (hop_gives pools hop x) (later_hops pools hop hops over))

module _ (pools : List ProblemPool) (sound : AreSoundPools pools) (actor : Name) where
  -- what a hop lends and is paid
  amounts : (hop : Hop) (hops : List Hop) (x : ℕ) → All (IsHop pools) (hop ∷ hops) → 1 ≤ gives pools (hop ∷ hops) x
      → (x ≤ AMOUNT_LIMIT) × (cond hop.zero_in 0 (hop_gives pools hop x) ≤ AMOUNT_LIMIT) × (cond hop.zero_in (hop_gives pools hop x) 0 ≤ AMOUNT_LIMIT)
  amounts hop hops x over some =
      let is = over 0 hop (omega arith) in
      let pool : IsSoundPool (hop_pool pools hop) = sound.each hop.pool is.there in
      let side : HopSide pools actor hop x = hop_side pools actor hop x is pool (some_in pools (hop ∷ hops) x some) (some_in pools hops (hop_gives pools hop x) some) in
      (omega (arith, side.small), omega (arith, side.side.fair.within0, pool.reserves.1), omega (arith, side.side.fair.within1, pool.reserves.3))

  pub chain_fits : (hops : List Hop) (hop : Hop) (x : ℕ) → All (IsHop pools) (hop ∷ hops) → 1 ≤ gives pools (hop ∷ hops) x
      → FitsMove (nested_loans pools (leg_of_hop pools hop x) (legs_along pools hops (hop_gives pools hop x)))
  unfolding nested_loans
  chain_fits [] hop x over some = let a = amounts hop [] x over some in (a.1, (a.2, (a.0, tt)))
  chain_fits (next ∷ later) hop x over some =
      let a = amounts hop (next ∷ later) x over some in
      (a.1, (a.2, (chain_fits later next (hop_gives pools hop x) (later_hops pools hop (next ∷ later) over) some, (a.0, tt))))

  loans_fit : (hops : List Hop) (x : ℕ) → All (IsHop pools) hops → x < gives pools hops x → (step : Move) → AreLoansOf pools (legs_along pools hops x) step → FitsMove step
  loans_fit [] x over stands step is = absurd is
  loans_fit (hop ∷ hops) x over stands step is = subst FitsMove (sym is) (chain_fits hops hop x over (omega arith))

  -- the nested loans of a cycle
  pub cycle_fits : (t : Name) (legs : List Leg) (gain : ℕ) → IsCycleTrade pools t legs gain → (step : Move) → AreLoansOf pools legs step → FitsMove step
  cycle_fits t legs gain cycle step is =
      loans_fit cycle.hops cycle.x cycle.is_cycle.over cycle.stands step (subst (λ (ls : List Leg). AreLoansOf pools ls step) cycle.legs_of is)

pub cycle_there : (pools : List ProblemPool) (t : Name) (legs : List Leg) (gain : ℕ) → IsCycleTrade pools t legs gain → AreThere pools legs
cycle_there pools t legs gain cycle = subst (AreThere pools) (sym cycle.legs_of) (hops_there pools cycle.hops cycle.x cycle.is_cycle.over)

-- there is one leg at least
pub cycle_some : (pools : List ProblemPool) (t : Name) (legs : List Leg) (gain : ℕ) → IsCycleTrade pools t legs gain → 1 ≤ length legs
cycle_some pools t legs gain cycle = subst (λ (ls : List Leg). 1 ≤ length ls) (sym cycle.legs_of) (some cycle.hops cycle.is_cycle.short.0)
  where
    some : (hops : List Hop) → 2 ≤ length hops → 1 ≤ length (legs_along pools hops cycle.x)
    some [] long = absurd (omega arith)
    some (hop ∷ hops) long = omega arith
