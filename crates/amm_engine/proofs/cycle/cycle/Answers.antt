use Rattle.std.proofs.Common.{◌≡◌, Ok, Err, ap, sym}
use Rattle.amm_model.specs.declared.fault.Fault.{Fault}
use Rattle.amm_engine.proofs.Doing.{does_fail, does_not}
use Rattle.amm_engine.proofs.Cycling.{cycle_none, cycle_ready, cycle_refused, does_take}
use Rattle.amm_engine.proofs.cycle.cycle.Goals as goal

pub take-requires-clause-cycle : goal.take-requires-clause-cycle
take-requires-clause-cycle c = c.in-Ok.ensures.answers.trade

pub take-requires-clause-ready : goal.take-requires-clause-ready
take-requires-clause-ready c = cycle_ready _ _ c.in-Ok.quote c.requires.rest (rw c.book-2.ensures at c.in-Ok.ensures.problem) c.in-Ok.ensures.answers

pub returns-in-Err : goal.returns-in-Err
returns-in-Err c = record {
  does = does_not _ _ _ c.in-Err.why _ (cycle_refused _ _ _ _ c.in-Err.why (rw c.book.ensures at (sym c.in-Err.ensures))) c.refuse.ensures.fault c.refuse.ensures.after;
}

pub returns-in-Ok : goal.returns-in-Ok
returns-in-Ok c = record {
  does = does_take _ _ _ _ _ c.in-Ok.quote _ (rw c.book.ensures at (sym c.in_default.ensures)) (rw c.book-2.ensures at c.in-Ok.ensures.problem) c.in-Ok.ensures.some c.in-Ok.ensures.answers
      c.take.ensures.meets c.take.ensures.runs c.take.ensures.no_code;
}

pub returns-in-Err-quote_for : goal.returns-in-Err-quote_for
returns-in-Err-quote_for c =
    let none = c.in-Err-quote_for.ensures.refused in
    record {
      does = does_fail _ _ _ c.in-Err-quote_for.fault _
          (λ why e. cycle_none _ _ _ _ why (rw c.book.ensures at (sym c.in_default.ensures)) (rw c.book-2.ensures at (none why (ap (λ (f : Fault). Err f) e))))
          c.fail.ensures.fault c.fail.ensures.after;
    }
