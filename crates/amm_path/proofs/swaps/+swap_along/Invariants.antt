use Rattle.std.proofs.Common.{length}
use Rattle.amm_path.proofs.swaps.+swap_along.Given as goal

abbrev pub decreases-swap_along : goal.decreases-swap_along
decreases-swap_along l = length l.trades.now
