use Rattle.amm_model.specs.Sound.{IsSound}
use Rattle.amm_model.proofs.PlainSound.{list_sound}
use Rattle.amm_state.proofs.Meets.{on_ok}
use Rattle.ledger_tests.proofs.factory.list.Goals as goal

pub returns-clause-sound : goal.returns-clause-sound
returns-clause-sound c = on_ok IsSound _ _ _ _ c.list_token.ensures (λ made is. list_sound c.args.tx.now.present c.args.token.now made is c.requires.sound)
