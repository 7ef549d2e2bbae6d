use Rattle.std.proofs.Common.{length}
use Rattle.amm_path.proofs.plan.+asked_in.Given as goal

abbrev pub decreases-asked_in : goal.decreases-asked_in
decreases-asked_in l = length l.tokens.now
