use Rattle.amm_pool.proofs.Products.{burn_product, later_product}
use Rattle.amm_pool.proofs.laws.shares_keep_product.Goals as goal

pub returns-clause-mint : goal.returns-clause-mint
returns-clause-mint c = later_product

pub returns-clause-burn : goal.returns-clause-burn
returns-clause-burn c = burn_product
