use Rattle.amm_model.proofs.Laters.{later_transfer}
use Rattle.amm_pair.proofs.Laters.{later_mint, later_swap}
use Rattle.amm_flash.proofs.Calls.{clean_mark, later_when_clean}
use Rattle.ledger_tests.proofs.borrowers.HostileBorrower.on_loan.Goals as goal

pub returns-in-Mints-clause-later : goal.returns-in-Mints-clause-later
returns-in-Mints-clause-later c = λ clean. later_when_clean _ _ _ _ c.mint.ensures.meets (λ made is. later_mint _ _ _ made is) (clean_mark _ _ clean)

pub returns-in-Swaps-clause-later : goal.returns-in-Swaps-clause-later
returns-in-Swaps-clause-later c = λ clean. later_when_clean _ _ _ _ c.swap.ensures.meets (λ made is. later_swap _ _ _ _ _ made is) (clean_mark _ _ clean)

pub returns-in-Overdraws-clause-later : goal.returns-in-Overdraws-clause-later
returns-in-Overdraws-clause-later c = λ clean. later_when_clean _ _ _ _ c.move_units.ensures (λ made is. later_transfer _ _ _ _ _ made is) (clean_mark _ _ clean)
