use Rattle.amm_model.specs.Sound.{IsSound}
use Rattle.amm_state.proofs.Meets.{on_ok}
use Rattle.amm_factory.proofs.Settings.{set_fee_to_sound}
use Rattle.amm_factory.proofs.set_fee_to.Goals as goal

pub returns-clause-sound : goal.returns-clause-sound
returns-clause-sound c = on_ok IsSound _ _ _ _ c.set_fee_to_at.ensures (λ made is. set_fee_to_sound c.args.tx.now.present c.args.actor.now c.args.to.now made is c.requires.sound)
