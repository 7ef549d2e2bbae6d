use Rattle.std.proofs.Common.{length}
use Rattle.amm_settle.proofs.legs.+perform_legs.Given as goal

abbrev pub decreases-perform_legs : goal.decreases-perform_legs
decreases-perform_legs l = length l.legs.now
