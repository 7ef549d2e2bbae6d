use Rattle.amm_split.proofs.Determined.{spread-once}
use Rattle.amm_split.proofs.spreads.one_spread_value.Goals as goal

pub returns : goal.returns
returns c = spread-once
