use Rattle.std.proofs.Common.{◌≡◌, Ok, Err, ap, sym}
use Rattle.amm_model.specs.declared.fault.Fault.{Fault}
use Rattle.amm_engine.proofs.Doing.{does, does_fail, does_not}
use Rattle.amm_engine.proofs.Selling.{basket_refused, basket_sold, basket_unsold, can_sell, sale_ready}
use Rattle.amm_engine.proofs.basket.basket.Goals as goal

pub quote_for-requires-clause-apart : goal.quote_for-requires-clause-apart
quote_for-requires-clause-apart c = (can_sell c.book.result.now.ledger c.args.actor.now _ c.args.t.now c.args.deadline (sym c.in_default.ensures)).apart

pub quote_for-requires-clause-some : goal.quote_for-requires-clause-some
quote_for-requires-clause-some c = (can_sell c.book.result.now.ledger c.args.actor.now _ c.args.t.now c.args.deadline (sym c.in_default.ensures)).some

pub returns-in-Err : goal.returns-in-Err
returns-in-Err c = record {
  does = does_not _ _ _ c.in-Err.why _ (basket_refused _ _ _ _ _ _ c.in-Err.why (rw (c.book.ensures, c.as_slice-parts.ensures) at (sym c.in-Err.ensures))) c.refuse.ensures.fault c.refuse.ensures.after;
}

pub returns-in-Err-quote_for : goal.returns-in-Err-quote_for
returns-in-Err-quote_for c =
    let may = rw (c.book.ensures, c.as_slice-parts.ensures) at (sym c.in_default.ensures) in
    let none = c.in-Err-quote_for.ensures.refused in
    record {
      does = does_fail _ _ _ c.in-Err-quote_for.fault _
          (λ why e. basket_unsold _ _ _ _ _ _ why may (rw (c.book-2.ensures, c.as_slice-parts.ensures) at (none why (ap (λ (f : Fault). Err f) e))))
          c.fail.ensures.fault c.fail.ensures.after;
    }

pub sell-requires-clause-free : goal.sell-requires-clause-free
sell-requires-clause-free c =
    let may = rw (c.book.ensures, c.as_slice-parts.ensures) at (sym c.in_default.ensures) in
    let problem = rw (c.book-2.ensures, c.as_slice-parts.ensures) at c.in-Ok.ensures.problem in
    (sale_ready _ _ _ _ _ c.in-Ok.quote may c.requires.rest problem c.in-Ok.ensures.answers).0.free

pub sell-requires-clause-kept : goal.sell-requires-clause-kept
sell-requires-clause-kept c =
    let may = rw (c.book.ensures, c.as_slice-parts.ensures) at (sym c.in_default.ensures) in
    let problem = rw (c.book-2.ensures, c.as_slice-parts.ensures) at c.in-Ok.ensures.problem in
    (sale_ready _ _ _ _ _ c.in-Ok.quote may c.requires.rest problem c.in-Ok.ensures.answers).0.kept

pub sell-requires-clause-parts : goal.sell-requires-clause-parts
sell-requires-clause-parts c =
    let may = rw (c.book.ensures, c.as_slice-parts.ensures) at (sym c.in_default.ensures) in
    let problem = rw (c.book-2.ensures, c.as_slice-parts.ensures) at c.in-Ok.ensures.problem in
    (sale_ready _ _ _ _ _ c.in-Ok.quote may c.requires.rest problem c.in-Ok.ensures.answers).1

pub returns-in-Ok : goal.returns-in-Ok
returns-in-Ok c =
    let may = rw (c.book.ensures, c.as_slice-parts.ensures) at (sym c.in_default.ensures) in
    let problem = rw (c.book-2.ensures, c.as_slice-parts.ensures) at c.in-Ok.ensures.problem in
    record {
      does = does _ _ _ _ _ (basket_sold _ _ _ _ _ _ c.in-Ok.quote may c.requires.rest problem c.in-Ok.ensures.some c.in-Ok.ensures.answers c.in-Ok.ensures.enough) c.sell.ensures;
    }
