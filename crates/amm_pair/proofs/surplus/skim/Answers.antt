use Rattle.amm_model.specs.Later.{Later}
use Rattle.amm_model.specs.Sound.{IsSound}
use Rattle.amm_state.proofs.Meets.{on_ok}
use Rattle.amm_pair.proofs.Tokens.{tokens_differ}
use Rattle.amm_pair.proofs.Operations.{skim_sound}
use Rattle.amm_pair.proofs.Laters.{later_skim}
use Rattle.amm_pair.proofs.surplus.skim.Goals as goal

pub returns-clause-sound : goal.returns-clause-sound
returns-clause-sound c = on_ok IsSound _ _ _ _ c.skim_at.ensures (λ made is. skim_sound _ _ _ made (tokens_differ c.args.pool.now c.as_bytes.ensures.pool) c.requires.sound is)

pub returns-clause-later : goal.returns-clause-later
returns-clause-later c =
    on_ok (Later c.args.tx.now.present) _ _ _ _ c.skim_at.ensures
    (λ made is. later_skim c.args.tx.now.present c.args.pool.now c.args.to.now made (tokens_differ c.args.pool.now c.as_bytes.ensures.pool) is)
