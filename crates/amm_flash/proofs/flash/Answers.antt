use Rattle.std.proofs.Common.{◌≡◌, Ok, rules}
use Rattle.amm_names.specs.declared.holder.Holder.TheVariants as holders
use Rattle.amm_model.specs.Outcome.{Made}
use Rattle.amm_model.specs.Pools.{Terms}
use Rattle.amm_model.specs.Operations.{open_loan}
use Rattle.amm_state.specs.declared.mark.Mark.TheVariants as mark
use Rattle.amm_flash.specs.End.{end_of}
use Rattle.amm_flash.proofs.Repaid.{open_later, return_answers, later_closed, product_closed}
use Rattle.amm_flash.proofs.flash.Goals as goal

pub close_loan-requires-clause-open : goal.close_loan-requires-clause-open
close_loan-requires-clause-open g c = open_later _ _ _ c.in_ok-loan.ensures.open (c.on_loan-answer.ensures.later (search rules))

pub returns-in-Clean-clause-answers : goal.returns-in-Clean-clause-answers
returns-in-Clean-clause-answers g c =
    let lent : Made Terms = record { ledger = c.open_loan.new.tx.present; answer = c.in_ok-loan.loan } in
    let gives : open_loan c.args.tx.now.present c.args.pool.now c.args.out0 c.args.out1 (holders.User c.args.actor.now) ≡ Ok lent = c.in_ok-loan.ensures.meets.gives in
    let clean : end_of c.on_loan-answer.new.tx.mark c.on_loan-answer.result ≡ mark.Clean = search rules in
    let later = c.on_loan-answer.ensures.later clean in
    let deed : g.B.Borrower.did c.args.b.now c.open_loan.new.tx.present c.on_loan-answer.new.tx.present mark.Clean = rw clean at c.on_loan-answer.ensures.did in
    rw gives (return_answers (g.B.Borrower.did c.args.b.now) lent c.on_loan-answer.new.tx c.close_loan.new.tx
    (open_later _ _ _ c.in_ok-loan.ensures.open later) later deed c.close_loan.result c.close_loan.ensures.meets c.close_loan.ensures.kept)

pub returns-in-Clean-clause-later : goal.returns-in-Clean-clause-later
returns-in-Clean-clause-later g c =
    let lent : Made Terms = record { ledger = c.open_loan.new.tx.present; answer = c.in_ok-loan.loan } in
    later_closed c.args.tx.now.present c.args.pool.now c.args.out0 c.args.out1 (holders.User c.args.actor.now) lent c.in_ok-loan.ensures.meets.gives
    c.on_loan-answer.new.tx c.close_loan.new.tx (c.on_loan-answer.ensures.later (search rules)) c.close_loan.result c.close_loan.ensures.meets

pub returns-in-Clean-clause-product : goal.returns-in-Clean-clause-product
returns-in-Clean-clause-product g c =
    let lent : Made Terms = record { ledger = c.open_loan.new.tx.present; answer = c.in_ok-loan.loan } in
    product_closed c.args.tx.now.present c.args.pool.now c.args.out0 c.args.out1 (holders.User c.args.actor.now) lent c.in_ok-loan.ensures.meets.gives
    c.on_loan-answer.new.tx c.close_loan.new.tx (c.on_loan-answer.ensures.later (search rules)) c.close_loan.result c.close_loan.ensures.meets c.close_loan.ensures.product
