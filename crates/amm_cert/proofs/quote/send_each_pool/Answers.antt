use Rattle.amm_model.specs.Certificate.{pool_value}
use Rattle.amm_text.proofs.Sent.{each-more}
use Rattle.amm_cert.proofs.quote.send_each_pool.Goals as goal

pub loop-pool-preserved : goal.loop-pool-preserved
loop-pool-preserved g c =
    each-more pool_value c.args.pools.now c.loop-pool.pool-index c.pool-item.result c.pool-item.result _ _ _
    c.loop-pool-test.true c.pool-item.is c.loop-pool.invariant c.in_ok-send_problem_pool.ensures
