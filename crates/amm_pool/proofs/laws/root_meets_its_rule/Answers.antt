use Rattle.amm_model.proofs.Root.{root_of-is, root_of-only}
use Rattle.amm_pool.proofs.laws.root_meets_its_rule.Goals as goal

pub returns-clause-holds : goal.returns-clause-holds
returns-clause-holds c = root_of-is

pub returns-clause-only : goal.returns-clause-only
returns-clause-only c = root_of-only
