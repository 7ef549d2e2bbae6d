use Rattle.std.proofs.Common.{◌∙◌}
use Rattle.amm_model.specs.Ledger.{Ledger}
use Rattle.amm_model.specs.Sound.{IsSound, ProductKept}
use Rattle.amm_state.proofs.Meets.{on_ok}
use Rattle.amm_pair.proofs.Lending.{swap_sound, swap_product}
use Rattle.amm_pair.proofs.Straight.{swap_is_straight}
use Rattle.amm_pair.proofs.swaps.swap.Goals as goal

pub returns-clause-meets : goal.returns-clause-meets
returns-clause-meets c = rw (swap_is_straight c.args.tx.now.present c.args.pool.now c.args.out0 c.args.out1 c.args.to.now) c.swap_straight.ensures

pub returns-clause-sound : goal.returns-clause-sound
returns-clause-sound c =
    on_ok IsSound _ _ _ _ c.swap_straight.ensures (λ made is. swap_sound _ _ _ _ _ made c.requires.sound (swap_is_straight _ _ _ _ _ ∙ is))

pub returns-clause-product : goal.returns-clause-product
returns-clause-product c =
    on_ok (λ (l : Ledger). ProductKept c.args.tx.now.present l c.args.pool.now) _ _ _ _ c.swap_straight.ensures
    (λ made is. swap_product _ _ _ _ _ made (swap_is_straight _ _ _ _ _ ∙ is))
