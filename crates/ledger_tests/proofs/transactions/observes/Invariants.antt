use Rattle.std.proofs.Common.{◌≡◌}
use Rattle.amm_state.specs.declared.mark.Mark.TheVariants.{Clean}
use Rattle.ledger_tests.proofs.transactions.observes.Given as goal

abbrev pub invariant-observations : goal.invariant-observations
invariant-observations l = l.tx.mark ≡ Clean
