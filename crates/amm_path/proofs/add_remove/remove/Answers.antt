use Rattle.amm_model.specs.Later.{Later}
use Rattle.amm_state.proofs.Meets.{on_ok}
use Rattle.amm_path.proofs.Kept.{remove_kept}
use Rattle.amm_path.proofs.add_remove.remove.Goals as goal

pub returns-clause-later : goal.returns-clause-later
returns-clause-later c =
    on_ok (Later c.args.tx.now.present) _ _ _ _ c.remove_at.ensures.meets
    (λ made is. (remove_kept c.args.tx.now.present c.args.actor.now c.args.want.now c.args.to.now c.args.deadline made
    (record { first = c.as_bytes.ensures.token; second = c.as_bytes-2.ensures.token; at_a_fee = c.requires.want.fee }) is).later)
