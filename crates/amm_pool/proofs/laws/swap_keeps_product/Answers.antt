use Rattle.amm_pool.proofs.Products.{product_kept}
use Rattle.amm_pool.proofs.laws.swap_keeps_product.Goals as goal

pub returns : goal.returns
returns c = product_kept
