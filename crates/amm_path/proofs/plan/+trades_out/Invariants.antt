use Rattle.std.proofs.Common.{length}
use Rattle.amm_path.proofs.plan.+trades_out.Given as goal

abbrev pub decreases-trades_out : goal.decreases-trades_out
decreases-trades_out l = length l.tokens.now
