use Rattle.amm_cycle.proofs.Law.{no_trade_beats}
use Rattle.amm_cycle.proofs.laws.no_cycle_beats.Goals as goal

pub returns : goal.returns
returns c = no_trade_beats
