use Rattle.amm_model.proofs.Laters.{later_transfer}
use Rattle.amm_flash.proofs.Calls.{clean_mark, later_when_clean}
use Rattle.ledger_tests.proofs.borrowers.PaysBorrower.on_loan.Goals as goal

pub returns-clause-later : goal.returns-clause-later
returns-clause-later c = λ clean. later_when_clean _ _ _ _ c.move_units.ensures (λ made is. later_transfer _ _ _ _ _ made is) (clean_mark _ _ clean)
