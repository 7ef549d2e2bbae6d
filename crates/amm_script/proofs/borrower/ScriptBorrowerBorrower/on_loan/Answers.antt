use Rattle.amm_flash.proofs.Calls.{clean_mark}
use Rattle.amm_script.proofs.Steps.{clean_later}
use Rattle.amm_script.proofs.borrower.ScriptBorrowerBorrower.on_loan.Goals as goal

pub returns-clause-later : goal.returns-clause-later
returns-clause-later c = λ clean. clean_later _ _ _ _ c.run_steps.ensures.meets c.run_steps.ensures.later (clean_mark _ _ clean)
