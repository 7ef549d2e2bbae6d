use Rattle.std.proofs.Common.{◌≡◌}
use Rattle.amm_state.specs.declared.mark.Mark.TheVariants.{Clean}
use Rattle.ledger_tests.proofs.transactions.fill.Given as goal

abbrev pub invariant-deposits : goal.invariant-deposits
invariant-deposits l = l.tx.mark ≡ Clean

abbrev pub invariant-moves : goal.invariant-moves
invariant-moves l = l.tx.mark ≡ Clean
