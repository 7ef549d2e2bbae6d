use Rattle.amm_model.specs.Sound.{IsSound}
use Rattle.amm_model.proofs.PlainSound.{transfer_sound}
use Rattle.amm_state.proofs.Meets.{on_ok}
use Rattle.amm_pair.proofs.payments.pay.Goals as goal

pub returns-clause-sound : goal.returns-clause-sound
returns-clause-sound c = on_ok IsSound _ _ _ _ c.move_units.ensures (λ made is. transfer_sound _ _ _ _ _ made is c.requires.sound)
