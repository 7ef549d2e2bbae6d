use Rattle.std.proofs.Common.{◌≡◌, ◌∙◌, Ok, Err, ap, subst, sym}
use Rattle.amm_model.specs.declared.fault.Fault.{Fault}
use Rattle.amm_model.specs.Ledger.{Ledger}
use Rattle.amm_model.specs.Splits.{may_split}
use Rattle.amm_engine.proofs.Splitting.{does_not_split, does_not_route, does_split}
use Rattle.amm_engine.proofs.split.split.Goals as goal

pub returns-in-Err : goal.returns-in-Err
returns-in-Err c = record {
  does = does_not_split _ _ _ _ _ _ c.book.ensures c.in-Err.why _ (sym c.in-Err.ensures) c.refuse.ensures.fault c.refuse.ensures.after;
}

pub returns-in-Ok : goal.returns-in-Ok
returns-in-Ok c =
    let may : may_split c.book-2.result.now.ledger c.args.s.now c.args.t.now c.args.d ≡ Ok tt =
    subst (λ (l : Ledger). may_split l c.args.s.now c.args.t.now c.args.d ≡ Ok tt) (c.book.ensures ∙ sym c.book-2.ensures) (sym c.in_default.ensures) in
    record { does = does_split _ _ _ _ _ _ c.book-2.ensures c.in-Ok.quote _ may c.in-Ok.ensures.problem c.in-Ok.ensures.some c.in-Ok.ensures.answers c.keep.ensures }

pub returns-in-Err-quote_for : goal.returns-in-Err-quote_for
returns-in-Err-quote_for c =
    let may : may_split c.book-2.result.now.ledger c.args.s.now c.args.t.now c.args.d ≡ Ok tt =
    subst (λ (l : Ledger). may_split l c.args.s.now c.args.t.now c.args.d ≡ Ok tt) (c.book.ensures ∙ sym c.book-2.ensures) (sym c.in_default.ensures) in
    let none = c.in-Err-quote_for.ensures.refused in
    record { does = does_not_route _ _ _ _ _ _ c.book-2.ensures c.in-Err-quote_for.fault _ may (λ why e. none why (ap (λ (f : Fault). Err f) e)) c.fail.ensures.fault c.fail.ensures.after }
