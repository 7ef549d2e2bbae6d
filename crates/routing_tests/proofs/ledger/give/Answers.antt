use Rattle.amm_names.specs.declared.holder.Holder.TheVariants as holders
use Rattle.amm_model.specs.Outcome.{Made}
use Rattle.amm_model.specs.Sound.{IsAtRest}
use Rattle.amm_model.proofs.PlainSound.{list_listed, list_rest, issue_rest}
use Rattle.amm_state.proofs.Meets.{on_ok}
use Rattle.routing_tests.proofs.ledger.give.Goals as goal

pub returns-clause-rest : goal.returns-clause-rest
returns-clause-rest c =
    let listed : Made (Unit {0}) = record { ledger = c.list_token.new.self.present; answer = tt } in
    let gives = c.in_ok-list_token.ensures.gives in
    on_ok IsAtRest _ _ _ _ c.issue.ensures
    (λ made is. issue_rest c.list_token.new.self.present c.args.token.now (holders.Pool c.args.to.now) c.args.n made is
    (list_listed c.args.tx.now.present c.args.token.now listed gives).here (list_rest c.args.tx.now.present c.args.token.now listed gives c.requires.rest))
