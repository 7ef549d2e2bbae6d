use Rattle.amm_model.specs.declared.pair.MintReceipt.{MintReceipt}
use Rattle.amm_model.specs.Ledger.{Ledger}
use Rattle.amm_model.specs.Operations.{PerShareKept}
use Rattle.amm_model.specs.Sound.{IsSound}
use Rattle.amm_state.proofs.Meets.{on_ok, if_ok}
use Rattle.amm_pair.proofs.Shares.{mint_sound, mint_per_share}
use Rattle.amm_pair.proofs.mint_burn.mint.Goals as goal

pub returns-clause-sound : goal.returns-clause-sound
returns-clause-sound c = on_ok IsSound _ _ _ _ c.mint_at.ensures (λ made is. mint_sound c.args.tx.now.present c.args.pool.now c.args.to.now made is c.requires.sound)

pub returns-clause-per_share : goal.returns-clause-per_share
returns-clause-per_share c =
    if_ok (λ (l : Ledger) (receipt : MintReceipt). PerShareKept c.args.tx.now.present l c.args.pool.now receipt.fee_shares) _ _ _ _ c.mint_at.ensures
    (λ made is. mint_per_share c.args.tx.now.present c.args.pool.now c.args.to.now made is c.requires.sound)
