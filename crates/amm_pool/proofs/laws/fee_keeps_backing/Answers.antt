use Rattle.amm_pool.proofs.Products.{fee_within}
use Rattle.amm_pool.proofs.laws.fee_keeps_backing.Goals as goal

pub returns : goal.returns
returns c = fee_within
