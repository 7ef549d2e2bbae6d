use Rattle.std.proofs.Common.{◌≡◌, take}
use Rattle.std.specs.List.{filter_map}
use Rattle.amm_graph.specs.Markets.{pool_in}
use Rattle.amm_graph.proofs.market.pools_named.Given as goal

abbrev pub invariant-loop-name : goal.invariant-loop-name
invariant-loop-name l = l.pools.items ≡ filter_map (pool_in l.book.ledger) (take l.name-index l.names)
