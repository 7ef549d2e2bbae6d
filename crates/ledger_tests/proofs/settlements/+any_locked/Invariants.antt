use Rattle.std.proofs.Common.{length}
use Rattle.ledger_tests.proofs.settlements.+any_locked.Given as goal

abbrev pub decreases-any_locked : goal.decreases-any_locked
decreases-any_locked l = length l.legs.now
