use Rattle.amm_check.proofs.Judging.{unbeaten}
use Rattle.amm_check.proofs.law.yes_is_unbeaten.Goals as goal

pub returns : goal.returns
returns c = unbeaten
