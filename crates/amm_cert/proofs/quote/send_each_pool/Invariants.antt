use Rattle.std.proofs.Common.{map, take}
use Rattle.amm_model.specs.Certificate.{pool_value}
use Rattle.amm_text.specs.Sends.{SendsEach}
use Rattle.amm_cert.proofs.quote.send_each_pool.Given as goal

abbrev pub invariant-loop-pool : goal.invariant-loop-pool
invariant-loop-pool g l = SendsEach (map pool_value (take l.pool-index l.pools)) (g.S.Serializer.written l.initial.out) (g.S.Serializer.written l.out)
