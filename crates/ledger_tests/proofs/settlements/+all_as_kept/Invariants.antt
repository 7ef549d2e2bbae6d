use Rattle.std.proofs.Common.{length}
use Rattle.ledger_tests.proofs.settlements.+all_as_kept.Given as goal

abbrev pub decreases-all_as_kept : goal.decreases-all_as_kept
decreases-all_as_kept l = length l.legs.now
