use Rattle.amm_graph.specs.Markets.{pool_in}
use Rattle.amm_graph.proofs.Markets.{filter_map-more}
use Rattle.amm_graph.proofs.market.pools_named.Goals as goal

pub loop-name-preserved : goal.loop-name-preserved
loop-name-preserved c =
    let more = filter_map-more (pool_in c.args.book.now.ledger) c.args.names.now c.loop-name.name-index c.name-item.result c.loop-name-test.true in
    rw (more, ← c.name-item.is, ← c.pool_of.ensures, ← c.loop-name.invariant) c.in_ok-push_some.ensures
