-- What a command to take a cycle came to is what it may come to.
use Rattle.std.proofs.Common.{◌≡◌, ℕ, [], Result, Ok, Err, OnOk, refl, sym, ap, subst}
use Rattle.amm_names.specs.Names.{Name}
use Rattle.amm_model.specs.declared.fault.Fault.{Fault}
use Rattle.amm_model.specs.declared.fault.Fault.TheVariants as faults
use Rattle.amm_model.specs.declared.fault.Refusal.{Refusal}
use Rattle.amm_model.specs.declared.fault.Refusal.TheVariants as code
use Rattle.amm_model.specs.declared.reply.Answer.{Answer}
use Rattle.amm_model.specs.declared.reply.Answer.TheVariants as answers
use Rattle.amm_model.specs.declared.route.OpenQuote.{OpenQuote}
use Rattle.amm_model.specs.CommandView as command
use Rattle.amm_model.specs.CycleRuns.{Cycles, HasNoCycleIn, RunsNested, may_cycle}
use Rattle.amm_model.specs.Cycles.{HasNoCycle, IsCycleAnswer}
use Rattle.amm_model.specs.Ledger.{Ledger}
use Rattle.amm_model.specs.Market.{IsOpenProblemIn}
use Rattle.amm_model.specs.Meaning.{MayComeTo, as_answer, meaning}
use Rattle.amm_model.specs.Outcome.{Made, Outcome}
use Rattle.amm_model.specs.Sound.{IsAtRest}
use Rattle.amm_model.proofs.Guards.{same_answer}
use Rattle.amm_loans.specs.Loans.{AreReady, run_loans}
use Rattle.amm_loans.proofs.Fitting.{cycle_there}
use Rattle.amm_state.specs.Tx.{TxView, Meets}
use Rattle.amm_engine.specs.Commands.{DoesCommand}
use Rattle.amm_engine.proofs.Selling.{are_free}

-- the pools of a cycle of the ledger are ready for its loans
pub cycle_ready : (ledger : Ledger) (t : Name) (quote : OpenQuote) → IsAtRest ledger → IsOpenProblemIn ledger [] t quote.problem → IsCycleAnswer quote → AreReady ledger quote.problem.pools quote.route.legs
cycle_ready ledger t quote rest problem answer =
    let free = are_free ledger quote.problem.pools rest (λ pool is. (problem.pools pool).0 is) quote.route.legs
    (cycle_there quote.problem.pools quote.problem.t quote.route.legs quote.delivered answer.trade) in
    record { kept = free.here; free = free.each }

module _ (old : Ledger) (actor t : Name) (deadline : ℕ) where
  -- what the search ends with, where a cycle may be tried
  cycles : (outcome : Outcome Answer) → may_cycle old t deadline ≡ Ok tt → Cycles meaning old actor t outcome → MayComeTo old (command.cycle actor t deadline) outcome
  unfolding MayComeTo
  cycles outcome may is = rw may is

  -- one that may not be tried
  pub cycle_refused : (why : Refusal) → may_cycle old t deadline ≡ Err why → MayComeTo old (command.cycle actor t deadline) (Err why)
  unfolding MayComeTo
  cycle_refused why is = rw is refl

  -- none that brings anything
  pub cycle_none : (why : Refusal) → may_cycle old t deadline ≡ Ok tt → (why ≡ code.NoRoute) × HasNoCycleIn old t → MayComeTo old (command.cycle actor t deadline) (Err why)
  cycle_none why may none = cycles (Err why) may none

  -- one is taken
  pub cycle_taken : (quote : OpenQuote) (new : Ledger) → may_cycle old t deadline ≡ Ok tt → IsOpenProblemIn old [] t quote.problem → (HasNoCycle quote.problem → ⊥) → IsCycleAnswer quote
      → RunsNested meaning old actor quote.problem.pools quote.route.legs new → MayComeTo old (command.cycle actor t deadline) (Ok (record { ledger = new; answer = answers.Cycle quote }))
  cycle_taken quote new may problem some answer ran =
      cycles (Ok (record { ledger = new; answer = answers.Cycle quote })) may (record { quote = quote; problem = problem; some = some; cycle = answer; run = ran; told = refl })

-- the answer to loans that ran
told_by : (told answer : Answer) (ledger : Ledger) (outcome : Outcome (Unit {0})) → as_answer (λ _. told) outcome ≡ Ok (record { ledger = ledger; answer = answer }) → answer ≡ told
told_by told answer ledger (Ok made) is =
    sym (ap (λ (m : Made Answer). m.answer) (same_answer (record { ledger = made.ledger; answer = told }) (record { ledger = ledger; answer = answer }) is))
told_by told answer ledger (Err why) is = cc

-- a call that took one
pub does_take : (old new : TxView) (actor t : Name) (deadline : ℕ) (quote : OpenQuote) (result : Result Answer Fault) → may_cycle old.present t deadline ≡ Ok tt → IsOpenProblemIn old.present [] t quote.problem
    → (HasNoCycle quote.problem → ⊥) → IsCycleAnswer quote → Meets old new result (as_answer (λ _. answers.Cycle quote) (run_loans old.present actor quote.problem.pools quote.route.legs))
    → OnOk result (RunsNested meaning old.present actor quote.problem.pools quote.route.legs new.present) → ((why : Refusal) → result ≡ Err (faults.Refused why) → ⊥)
    → DoesCommand old new (command.cycle actor t deadline) result
does_take old new actor t deadline quote (Ok answer) may problem some is meets ran never =
    let told : answer ≡ answers.Cycle quote = told_by (answers.Cycle quote) answer new.present _ meets.gives in
    record {
      outcome = Ok (record { ledger = new.present; answer = answer });
      comes = subst (λ (a : Answer). MayComeTo old.present (command.cycle actor t deadline) (Ok (record { ledger = new.present; answer = a }))) (sym told)
          (cycle_taken old.present actor t deadline quote new.present may problem some is ran);
      meets = record { gives = refl; opening = meets.opening; mark = meets.mark };
    }
does_take old new actor t deadline quote (Err (faults.Refused why)) may problem some is meets ran never = absurd (never why refl)
does_take old new actor t deadline quote (Err faults.Memory) may problem some is meets ran never = meets
