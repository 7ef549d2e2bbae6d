use Rattle.amm_model.specs.Sound.{IsSound}
use Rattle.amm_state.proofs.Meets.{on_ok}
use Rattle.amm_script.proofs.Laws.{send_kept}
use Rattle.amm_script.proofs.asset.send.Goals as goal

pub returns-clause-sound : goal.returns-clause-sound
returns-clause-sound c = on_ok IsSound _ _ _ _ c.send_at.ensures (λ made is. (send_kept _ _ _ _ _ made is).later.sound c.requires.sound)
