use Rattle.amm_model.proofs.Root.{root_unique}
use Rattle.amm_pool.proofs.first_root.Goals as goal

pub returns-clause-value : goal.returns-clause-value
returns-clause-value c = root_unique _ _ c.root.ensures.square_le c.root.ensures.next_square_gt
