use Rattle.std.proofs.Common.{◌≡◌, ◌∙◌}
use Rattle.amm_names.specs.declared.holder.Holder.TheVariants as holders
use Rattle.amm_model.specs.Ledger.{Ledger}
use Rattle.amm_model.specs.Outcome.{Made}
use Rattle.amm_model.specs.Sound.{IsSound}
use Rattle.amm_model.proofs.PlainSound.{list_listed, list_sound, list_plain, issue_sound, issue_plain}
use Rattle.amm_state.proofs.Meets.{on_ok}
use Rattle.ledger_tests.proofs.market.bring.Goals as goal

pub returns-clause-sound : goal.returns-clause-sound
returns-clause-sound c =
    let listed : Made (Unit {0}) = record { ledger = c.list_token.new.self.present; answer = tt } in
    let gives = c.in_ok-list_token.ensures.gives in
    on_ok IsSound _ _ _ _ c.issue.ensures
    (λ made is. issue_sound c.list_token.new.self.present c.args.token.now (holders.Pool c.args.pool.now) c.args.n made is
    (list_listed c.args.tx.now.present c.args.token.now listed gives).here (list_sound c.args.tx.now.present c.args.token.now listed gives c.requires.sound))

pub returns-clause-pairs : goal.returns-clause-pairs
returns-clause-pairs c =
    let listed : Made (Unit {0}) = record { ledger = c.list_token.new.self.present; answer = tt } in
    let gives = c.in_ok-list_token.ensures.gives in
    on_ok (λ (l : Ledger). l.pairs ≡ c.args.tx.now.present.pairs) _ _ _ _ c.issue.ensures
    (λ made is. (issue_plain c.list_token.new.self.present c.args.token.now (holders.Pool c.args.pool.now) c.args.n made is).pairs ∙ (list_plain c.args.tx.now.present c.args.token.now listed gives).pairs)
