use Rattle.std.proofs.Common.{length}
use Rattle.amm_loans.proofs.step.+nested_loans.Given as goal

abbrev pub decreases-nested_loans : goal.decreases-nested_loans
decreases-nested_loans l = length l.later.now
