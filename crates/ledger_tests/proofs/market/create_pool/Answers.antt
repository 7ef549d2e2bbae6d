use Rattle.std.proofs.Common.{refl}
use Rattle.amm_model.specs.Sound.{IsAtRest}
use Rattle.amm_state.proofs.Meets.{on_ok}
use Rattle.amm_model.proofs.Laters.{kept_rest}
use Rattle.amm_factory.proofs.Creation.{create_kept}
use Rattle.ledger_tests.proofs.market.create_pool.Goals as goal

pub returns-clause-rest : goal.returns-clause-rest
returns-clause-rest c =
    on_ok IsAtRest _ _ _ _ c.create.ensures.meets
    (λ made is. kept_rest _ _ (create_kept c.args.tx.now.present c.args.a.now c.args.b.now 3 made c.as_bytes.ensures.token c.as_bytes-2.ensures.token refl is) c.requires.rest)
