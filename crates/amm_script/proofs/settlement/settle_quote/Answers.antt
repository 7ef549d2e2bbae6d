use Rattle.std.proofs.Common.{◌≡◌, Ok, ok_or, subst}
use Rattle.amm_model.specs.declared.fault.Refusal.TheVariants as refusal
use Rattle.amm_model.specs.Ledger.{Ledger, quote_of}
use Rattle.amm_model.specs.SplitAnswers.{IsSplitAnswer}
use Rattle.amm_model.proofs.Guards.{was_some}
use Rattle.amm_script.proofs.Laws.{settle_later}
use Rattle.amm_script.proofs.Settlements.{quote_has}
use Rattle.amm_script.proofs.settlement.settle_quote.Goals as goal

pub settle-requires-clause-delivers : goal.settle-requires-clause-delivers
settle-requires-clause-delivers c =
    let is = subst (λ (l : Ledger). ok_or (quote_of l.quotes c.args.number) refusal.NoQuote ≡ Ok c.in-Ok.quote) c.book.ensures c.in-Ok.ensures in
    (quote_has IsSplitAnswer c.args.tx.now.present.quotes c.args.number c.in-Ok.quote c.requires.sound.answers (was_some _ refusal.NoQuote _ is)).delivers

pub returns-clause-later : goal.returns-clause-later
returns-clause-later c = settle_later c.args.tx.now c.settle.new.tx c.args.actor.now c.in-Ok.quote c.args.deadline c.in_ok-delivered.delivered c.in_ok-delivered.ensures.meets
