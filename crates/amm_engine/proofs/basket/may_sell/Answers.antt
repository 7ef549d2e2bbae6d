use Rattle.std.proofs.Common.{◌≡◌, refl, sym, arith, nat_lt, false}
use Rattle.std.proofs.lemmas.Bool.Decides.{nat_tests}
use Rattle.amm_engine.proofs.Selling.{sale_allowed}
use Rattle.amm_engine.proofs.basket.may_sell.Goals as goal

pub returns : goal.returns
returns c =
    let timely : nat_lt c.args.deadline c.args.book.now.ledger.time ≡ false = grind (arith, nat_tests, c.if-deadline-time.false, c.time.ensures) in
    sale_allowed c.args.book.now.ledger c.args.actor.now c.args.parts.now c.args.t.now c.args.deadline timely (sym c.if-any_is.ensures) (sym c.if-not-are_listed.ensures)
    (sym c.if-not-has_token.ensures) (sym c.if-any_is_nothing.ensures) (c.if-not-has_parts.ensures.0 refl)
