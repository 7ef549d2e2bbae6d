use Rattle.amm_model.proofs.Names.{some_there}
use Rattle.amm_model.specs.Ledger.{Ledger, pair_of}
use Rattle.amm_model.specs.Sound.{IsSound, ProductKept}
use Rattle.amm_state.proofs.Meets.{on_ok}
use Rattle.amm_pair.proofs.Lending.{give_back_sound, give_back_product}
use Rattle.amm_pair.proofs.Straight.{give_back_is}
use Rattle.amm_pair.proofs.loans.close_at.Goals as goal

pub settle-requires-clause-small : goal.settle-requires-clause-small
settle-requires-clause-small c = (c.requires.sound.pairs _ _ c.requires.there).small

pub settle-requires-clause-there : goal.settle-requires-clause-there
settle-requires-clause-there c = some_there (pair_of c.args.tx.now.present.pairs c.args.pool.now) _ c.requires.there

pub returns-clause-meets : goal.returns-clause-meets
returns-clause-meets c = rw (give_back_is c.args.tx.now.present c.args.pool.now c.args.out0 c.args.out1 c.args.pair.now c.requires.there) c.settle.ensures.meets

pub returns-clause-sound : goal.returns-clause-sound
returns-clause-sound c = on_ok IsSound _ _ _ _ (returns-clause-meets c) (λ made is. give_back_sound _ _ _ _ made c.requires.sound is)

pub returns-clause-product : goal.returns-clause-product
returns-clause-product c =
    on_ok (λ (l : Ledger). ProductKept c.args.tx.now.present l c.args.pool.now) _ _ _ _ (returns-clause-meets c) (λ made is. give_back_product _ _ _ _ made is)
