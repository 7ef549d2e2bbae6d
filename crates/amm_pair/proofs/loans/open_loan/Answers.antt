use Rattle.amm_model.specs.Ledger.{Ledger}
use Rattle.amm_model.specs.Pools.{Terms}
use Rattle.amm_model.specs.Sound.{IsSound, IsOpen}
use Rattle.amm_state.proofs.Meets.{on_ok, if_ok}
use Rattle.amm_pair.proofs.Lending.{open_loan_opened}
use Rattle.amm_pair.proofs.loans.open_loan.Goals as goal

pub returns-clause-sound : goal.returns-clause-sound
returns-clause-sound c =
    on_ok IsSound _ _ _ _ c.open_at.ensures
    (λ made is. (open_loan_opened c.args.tx.now.present c.args.pool.now c.args.out0 c.args.out1 c.args.to.now made c.requires.sound is).0)

pub returns-clause-open : goal.returns-clause-open
returns-clause-open c =
    if_ok (λ (l : Ledger) (terms : Terms). IsOpen l terms) _ _ _ _ c.open_at.ensures
    (λ made is. (open_loan_opened c.args.tx.now.present c.args.pool.now c.args.out0 c.args.out1 c.args.to.now made c.requires.sound is).1)
