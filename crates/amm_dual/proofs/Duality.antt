-- Prices are settled where a route delivers all but one part in 65536 of their bound.
use Rattle.std.proofs.Common.{◌≡◌, ℕ, Bool, true, false, ap, ◌+◌, ◌/◌, ◌≤◌, ◌^◌, List, [], ◌∷◌, length, map, arith, refl, ◌∙◌, subst, Some}
use Rattle.std.specs.Prelude.{Option, MatchOption}
use Rattle.std.proofs.Math.ListN.{length-set}
use Rattle.amm_model.specs.declared.prices.Turn.{Turn}
use Rattle.amm_model.specs.declared.route.Leg.{Leg}
use Rattle.amm_model.specs.Routing.{OpenView, IsOpenProblem, ArePrices, amount_given}
use Rattle.amm_model.specs.Bound.{bound_of, price_of}
use Rattle.amm_model.specs.Legs.{AreLegs, Delivers, trade_of}
use Rattle.amm_model.specs.Settled.{IsSettled, prices_after, prices_after_turn}
use Rattle.amm_model.proofs.LegLaw.{legs_are_route, legs_deliver}
use Rattle.amm_dual.specs.declared.moves.Move.{Move}
use Rattle.amm_dual.specs.Moves.{turns_of}
use Rattle.amm_bound.proofs.Law.{no_route_beats_bound}

-- a move leaves as many prices
length-moved : (k : ℕ) (prices : List ℕ) (turns : List Turn) → length (prices_after k prices turns) ≡ length prices
length-moved k prices [] = refl
length-moved k prices (turn ∷ turns) = length-moved k (prices_after_turn k prices turn) turns ∙ length-set prices turn.place _

-- and so where it was taken or not
pub many-either : (b : Bool) (prices after : List ℕ) (step : Move) → (b ≡ true → after ≡ prices_after step.k prices (turns_of step)) → (b ≡ false → after ≡ prices) → length after ≡ length prices
many-either true prices after step taken kept = ap length (taken refl) ∙ length-moved step.k prices (turns_of step)
many-either false prices after step taken kept = ap length (kept refl)

-- no prices have a bound below what the route delivers, and so no move helps
settled-by : (problem : OpenView) (prices : List ℕ) (legs : List Leg) (amount : ℕ) → IsOpenProblem problem → length prices ≡ length problem.tokens → ArePrices prices →
    price_of problem.tokens prices problem.t ≡ 2 ^ 20 → Delivers problem legs amount → bound_of problem prices ≤ amount + bound_of problem prices / 65536 → IsSettled problem prices
settled-by problem prices legs amount sound many ranges unit (are, is) near = record {
  as_many = many;
  ranges = ranges;
  unit = unit;
  steady = λ k turns low high is_move next.
      (let beats = no_route_beats_bound problem (prices_after k prices turns) (map trade_of legs) sound (length-moved k prices turns ∙ many) next (legs_are_route problem legs sound are) in
      let delivers = legs_deliver problem legs sound are in
      omega arith);
}

-- the same, of what the evaluator answers
pub settled-by-legs : (problem : OpenView) (prices : List ℕ) (legs : List Leg) (answer : Option ℕ) (amount bound : ℕ) → IsOpenProblem problem → length prices ≡ length problem.tokens →
    ArePrices prices → price_of problem.tokens prices problem.t ≡ 2 ^ 20 → MatchOption answer (AreLegs problem.pools [] (amount_given problem) legs → ⊥) (λ amount. Delivers problem legs amount) →
    answer ≡ Some amount → bound ≡ bound_of problem prices → bound ≤ amount + bound / 65536 → IsSettled problem prices
settled-by-legs problem prices legs answer amount bound sound many ranges unit says some is near =
    settled-by problem prices legs amount sound many ranges unit
    (subst (λ (o : Option ℕ). MatchOption o (AreLegs problem.pools [] (amount_given problem) legs → ⊥) (λ a. Delivers problem legs a)) some says)
    (subst (λ (b : ℕ). b ≤ amount + b / 65536) is near)
