use Rattle.amm_history.proofs.Told.{tells_averages}
use Rattle.amm_history.proofs.law.averages_are_time_weighted.Goals as goal

pub returns : goal.returns
returns c = tells_averages
