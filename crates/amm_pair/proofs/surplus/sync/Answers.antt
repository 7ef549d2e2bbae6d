use Rattle.amm_model.specs.Sound.{IsSound}
use Rattle.amm_state.proofs.Meets.{on_ok}
use Rattle.amm_pair.proofs.Operations.{sync_sound}
use Rattle.amm_pair.proofs.surplus.sync.Goals as goal

pub returns-clause-sound : goal.returns-clause-sound
returns-clause-sound c = on_ok IsSound _ _ _ _ c.sync_at.ensures (λ made is. sync_sound _ _ made c.requires.sound is)
