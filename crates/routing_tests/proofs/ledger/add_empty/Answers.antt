use Rattle.amm_model.specs.Sound.{IsAtRest}
use Rattle.amm_state.proofs.Meets.{on_ok}
use Rattle.amm_graph.proofs.Ledgers.{created_rest}
use Rattle.routing_tests.proofs.ledger.add_empty.Goals as goal

pub returns-clause-rest : goal.returns-clause-rest
returns-clause-rest c =
    on_ok IsAtRest _ _ _ _ c.add_pair.ensures
    (λ made is. created_rest c.args.tx.now.present c.args.pool.now made is c.requires.absent c.requires.first c.requires.second c.requires.rest)
