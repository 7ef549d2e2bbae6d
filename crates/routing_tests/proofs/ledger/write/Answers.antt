use Rattle.amm_model.specs.Sound.{IsAtRest}
use Rattle.amm_state.proofs.Meets.{on_ok}
use Rattle.amm_graph.proofs.Ledgers.{filled_rest}
use Rattle.routing_tests.proofs.ledger.write.Goals as goal

pub returns-clause-rest : goal.returns-clause-rest
returns-clause-rest c =
    on_ok IsAtRest _ _ _ _ c.set_pair.ensures.meets
    (λ made is. filled_rest c.args.tx.now.present c.args.pool.now c.args.r0 c.args.r1 made is c.requires.there c.requires.shares c.requires.first c.requires.second c.requires.rest)
