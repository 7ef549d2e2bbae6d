-- What an accepted basket and an accepted cycle keep, pay and tell.
use Rattle.std.proofs.Common.{◌≡◌, ◌≤◌, ◌∙◌, ℕ, List, [], ◌∷◌, map, Result, Ok, Err, refl, sym, ap, arith, subst}
use Rattle.std.specs.Prelude.{MatchResult}
use Rattle.amm_names.specs.Names.{Name}
use Rattle.amm_model.specs.declared.fault.Refusal.{Refusal}
use Rattle.amm_model.specs.declared.problem.Part.{Part}
use Rattle.amm_model.specs.declared.problem.ProblemPool.{ProblemPool}
use Rattle.amm_model.specs.declared.reply.Answer.{Answer}
use Rattle.amm_model.specs.declared.reply.Answer.TheVariants as answers
use Rattle.amm_model.specs.declared.route.Leg.{Leg}
use Rattle.amm_model.specs.declared.route.OpenQuote.{OpenQuote}
use Rattle.amm_model.specs.Baskets.{IsBasketAnswer}
use Rattle.amm_model.specs.Bound.{bound_of}
use Rattle.amm_model.specs.CommandView as command
use Rattle.amm_model.specs.CommandView.{CommandView}
use Rattle.amm_model.specs.CycleRuns.{Cycles, IsCycleGain, IsCycleTaken, may_cycle}
use Rattle.amm_model.specs.Cycles.{IsCycleAnswer, nested_loans}
use Rattle.amm_model.specs.Fits.{FitsMove, HasNames}
use Rattle.amm_model.specs.Ledger.{Ledger}
use Rattle.amm_model.specs.Legs.{trade_of}
use Rattle.amm_model.specs.Meaning.{meaning}
use Rattle.amm_model.specs.Outcome.{Made, Outcome}
use Rattle.amm_model.specs.Routing.{IsOpenProblem, OpenView, delivered_by}
use Rattle.amm_model.specs.Runs.{IsBeatenByNone, TradedBy}
use Rattle.amm_model.specs.Sales.{IsSale, Sells, may_sell}
use Rattle.amm_model.specs.Settled.{IsSettled}
use Rattle.amm_model.specs.Sound.{IsAtRest}
use Rattle.amm_model.proofs.Guards.{same_answer}
use Rattle.amm_model.proofs.Laters.{Kept}
use Rattle.amm_model.proofs.LegLaw.{legs_are_route, legs_deliver}
use Rattle.amm_bound.proofs.Law.{no_route_beats_bound}
use Rattle.amm_cycle.proofs.Law.{no_trade_beats}
use Rattle.amm_script.proofs.Laws.{step_kept}
use Rattle.amm_settle.proofs.Kept.{legs_kept}
use Rattle.amm_settle.proofs.LegsPay.{legs_sold}
use Rattle.amm_loans.specs.Loans.{AreLoansOf}
use Rattle.amm_loans.proofs.Cycled.{QuoteDone, quote_gains}
use Rattle.amm_loans.proofs.Fitting.{cycle_fits, problem_pools}
use Rattle.amm_loans.proofs.OneLoan.{flash_made}
use Rattle.amm_engine.proofs.Cycling.{cycle_ready}
use Rattle.amm_engine.proofs.Selling.{sale_ready}
use Rattle.amm_engine.proofs.Told.{IsAccepted}
use Rattle.amm_engine.proofs.Written.{basket_writable, cycle_writable}

-- What holds after a basket or a cycle that was accepted.
pub record Trades (asked : CommandView) (old new : Ledger) (answer : Answer) : Type 0 where
  pub kept : Kept old new
  pub told : IsAccepted answer
  pub traded : TradedBy asked answer old new

-- what came to an answer passed its tests
was_tried : {S : Type 0} (made : Made Answer) (may : Result (Unit {0}) Refusal) → MatchResult may (λ _. S) (λ why. ◌≡◌ {A = Outcome Answer} (Ok made) (Err why)) → (may ≡ Ok tt) × S
was_tried made (Ok ok) comes = (refl, comes)
was_tried made (Err why) comes = cc

-- no route beats the bound of settled prices
beaten_by_none : (problem : OpenView) (prices : List ℕ) (bound : ℕ) → IsOpenProblem problem → IsSettled problem prices → bound ≡ bound_of problem prices → IsBeatenByNone problem bound
beaten_by_none problem prices bound sound settled is route is_route =
    subst (λ (b : ℕ). delivered_by problem route ≤ b) (sym is) (no_route_beats_bound problem prices route sound settled.as_many settled.ranges is_route)

-- ---- baskets

sale_told : (quote : OpenQuote) (sale : IsBasketAnswer quote) → IsAccepted (answers.Basket quote)
sale_told quote sale =
    let best : IsBeatenByNone quote.problem quote.bound = beaten_by_none quote.problem quote.prices quote.bound sale.problem sale.settled sale.bound in
    record {
      accepted = λ why e. cc;
      written = basket_writable quote sale;
      unbeaten = (
        best,
        (let route = best (map trade_of quote.route.legs) (legs_are_route quote.problem quote.route.legs sale.problem sale.delivers.0) in
            omega (arith, route, legs_deliver quote.problem quote.route.legs sale.problem sale.delivers.0, sale.delivers.1)),
      );
    }

sale_trades : (old : Ledger) (actor : Name) (parts : List Part) (t : Name) (min deadline : ℕ) (made : Made Answer) → IsAtRest old → may_sell old actor parts t deadline ≡ Ok tt → IsSale old actor parts t min made
    → Trades (command.basket actor parts t min deadline) old made.ledger made.answer
sale_trades old actor parts t min deadline made rest may is =
    let quote = is.quote in
    let left : Made (Unit {0}) = record { ledger = made.ledger; answer = tt } in
    let ready = sale_ready old actor parts t deadline quote may rest is.problem is.sale in
    subst (Trades (command.basket actor parts t min deadline) old made.ledger) (sym is.told) (record {
      kept = legs_kept quote.route.legs old actor quote.problem.pools left is.performed;
      told = sale_told quote is.sale;
      traded = legs_sold old actor quote is.sale.problem is.sale.delivers ready.0.free ready.0.kept ready.1 left is.performed;
    })

pub basket_trades : (old : Ledger) (actor : Name) (parts : List Part) (t : Name) (min deadline : ℕ) (made : Made Answer) → IsAtRest old
    → MatchResult (may_sell old actor parts t deadline) (λ _. Sells old actor parts t min (Ok made)) (λ why. ◌≡◌ {A = Outcome Answer} (Ok made) (Err why))
    → Trades (command.basket actor parts t min deadline) old made.ledger made.answer
basket_trades old actor parts t min deadline made rest comes =
    let tried = was_tried made (may_sell old actor parts t deadline) comes in
    sale_trades old actor parts t min deadline made rest tried.0 tried.1

-- ---- cycles

names_nested : (pools : List ProblemPool) (first : Leg) (later : List Leg) → HasNames (nested_loans pools first later)
unfolding nested_loans
names_nested pools first [] = (tt, tt)
names_nested pools first (next ∷ later) = (names_nested pools next later, (tt, tt))

cycle_told : (quote : OpenQuote) (cycle : IsCycleAnswer quote) → IsAccepted (answers.Cycle quote)
cycle_told quote cycle = record {
  accepted = λ why e. cc;
  written = cycle_writable quote cycle;
  unbeaten = (
    beaten_by_none quote.problem quote.prices quote.bound cycle.problem cycle.settled cycle.bound,
    subst (λ (b : ℕ). quote.delivered ≤ b) (sym cycle.bound)
        (no_trade_beats quote.problem quote.prices quote.route.legs quote.delivered cycle.problem cycle.settled.as_many cycle.settled.ranges cycle.trade),
  );
}

taken_trades : (old : Ledger) (actor t : Name) (deadline : ℕ) (made : Made Answer) → IsAtRest old → IsCycleTaken meaning old actor t made → Trades (command.cycle actor t deadline) old made.ledger made.answer
taken_trades old actor t deadline made rest is =
    let quote = is.quote in
    let pools = quote.problem.pools in
    let run = is.run in
    let step = nested_loans pools run.first run.later in
    let loans : AreLoansOf pools quote.route.legs step = subst (λ (legs : List Leg). AreLoansOf pools legs step) (sym run.are) refl in
    let sound = problem_pools quote.problem is.cycle.problem in
    let done : QuoteDone old actor quote = quote_gains old actor quote rest.sound sound is.cycle.trade (cycle_ready old t quote rest is.problem is.cycle) in
    let same : flash_made done.made.ledger done.made.answer ≡ flash_made made.ledger run.receipt = same_answer (flash_made done.made.ledger done.made.answer) (flash_made made.ledger run.receipt) (sym (done.is step loans) ∙ run.ran) in
    let fits : FitsMove step = cycle_fits pools sound actor quote.problem.t quote.route.legs quote.delivered is.cycle.trade step loans in
    subst (Trades (command.cycle actor t deadline) old made.ledger) (sym is.told) (record {
      kept = step_kept step old actor (flash_made made.ledger run.receipt) (names_nested pools run.first run.later) fits run.ran;
      told = cycle_told quote is.cycle;
      traded = subst (λ (m : Made Answer). IsCycleGain old m.ledger actor quote) same done.gains;
    })

pub cycle_trades : (old : Ledger) (actor t : Name) (deadline : ℕ) (made : Made Answer) → IsAtRest old
    → MatchResult (may_cycle old t deadline) (λ _. Cycles meaning old actor t (Ok made)) (λ why. ◌≡◌ {A = Outcome Answer} (Ok made) (Err why))
    → Trades (command.cycle actor t deadline) old made.ledger made.answer
cycle_trades old actor t deadline made rest comes = taken_trades old actor t deadline made rest (was_tried made (may_cycle old t deadline) comes).1
