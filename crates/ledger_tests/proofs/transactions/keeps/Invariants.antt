use Rattle.std.proofs.Common.{◌≡◌}
use Rattle.amm_state.specs.declared.mark.Mark.TheVariants.{Clean}
use Rattle.ledger_tests.proofs.transactions.keeps.Given as goal

abbrev pub invariant-quotes : goal.invariant-quotes
invariant-quotes l = l.tx.mark ≡ Clean
