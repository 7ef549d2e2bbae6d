use Rattle.amm_model.specs.declared.pair.BurnReceipt.{BurnReceipt}
use Rattle.amm_model.specs.Ledger.{Ledger}
use Rattle.amm_model.specs.Later.{Later}
use Rattle.amm_model.specs.Operations.{PerShareKept}
use Rattle.amm_model.specs.Sound.{IsSound}
use Rattle.amm_state.proofs.Meets.{on_ok, if_ok}
use Rattle.amm_pair.proofs.Tokens.{tokens_differ}
use Rattle.amm_pair.proofs.Burning.{burn_sound, burn_per_share}
use Rattle.amm_pair.proofs.Laters.{later_burn}
use Rattle.amm_pair.proofs.mint_burn.burn.Goals as goal

pub returns-clause-sound : goal.returns-clause-sound
returns-clause-sound c =
    on_ok IsSound _ _ _ _ c.burn_at.ensures (λ made is. burn_sound c.args.tx.now.present c.args.pool.now c.args.to.now made is (tokens_differ c.args.pool.now c.as_bytes.ensures.pool) c.requires.sound)

pub returns-clause-per_share : goal.returns-clause-per_share
returns-clause-per_share c =
    if_ok (λ (l : Ledger) (receipt : BurnReceipt). PerShareKept c.args.tx.now.present l c.args.pool.now receipt.fee_shares) _ _ _ _ c.burn_at.ensures
    (λ made is. burn_per_share c.args.tx.now.present c.args.pool.now c.args.to.now made is (tokens_differ c.args.pool.now c.as_bytes.ensures.pool) c.requires.sound)

pub returns-clause-later : goal.returns-clause-later
returns-clause-later c =
    on_ok (Later c.args.tx.now.present) _ _ _ _ c.burn_at.ensures
    (λ made is. later_burn c.args.tx.now.present c.args.pool.now c.args.to.now made (tokens_differ c.args.pool.now c.as_bytes.ensures.pool) is)
