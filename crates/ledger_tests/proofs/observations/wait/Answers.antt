use Rattle.amm_model.specs.Sound.{IsSound}
use Rattle.amm_model.proofs.PlainSound.{set_time_sound}
use Rattle.amm_state.proofs.Meets.{on_ok}
use Rattle.ledger_tests.proofs.observations.wait.Goals as goal

pub returns-clause-sound : goal.returns-clause-sound
returns-clause-sound c = on_ok IsSound _ _ _ _ c.set_time.ensures (λ made is. set_time_sound c.args.tx.now.present c.args.time made is c.requires.limit c.requires.sound)
