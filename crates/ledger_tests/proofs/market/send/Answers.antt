use Rattle.amm_model.specs.Sound.{IsAtRest}
use Rattle.amm_model.proofs.Laters.{kept_rest, transfer_kept}
use Rattle.amm_state.proofs.Meets.{on_ok}
use Rattle.ledger_tests.proofs.market.send.Goals as goal

pub returns-clause-rest : goal.returns-clause-rest
returns-clause-rest c = on_ok IsAtRest _ _ _ _ c.move_units.ensures (λ made is. kept_rest _ _ (transfer_kept _ _ _ _ _ made is) c.requires.rest)
