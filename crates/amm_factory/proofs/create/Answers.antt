use Rattle.amm_model.specs.Later.{Later}
use Rattle.amm_model.specs.Sound.{IsSound}
use Rattle.amm_state.proofs.Meets.{on_ok}
use Rattle.amm_factory.proofs.Creation.{create_sound}
use Rattle.amm_factory.proofs.Laters.{later_create}
use Rattle.amm_factory.proofs.create.Goals as goal

pub returns-clause-sound : goal.returns-clause-sound
returns-clause-sound c =
    on_ok IsSound _ _ _ _ c.create_at.ensures
    (λ made is. create_sound c.args.tx.now.present c.args.a.now c.args.b.now c.args.fee made c.as_bytes.ensures.token c.as_bytes-2.ensures.token c.requires.fee is c.requires.sound)

pub returns-clause-later : goal.returns-clause-later
returns-clause-later c =
    on_ok (Later c.args.tx.now.present) _ _ _ _ c.create_at.ensures
    (λ made is. later_create c.args.tx.now.present c.args.a.now c.args.b.now c.args.fee made c.as_bytes.ensures.token c.as_bytes-2.ensures.token c.requires.fee is)
