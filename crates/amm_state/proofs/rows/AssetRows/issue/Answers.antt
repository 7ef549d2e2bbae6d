use Rattle.std.proofs.Common.{◌+◌, arith}
use Rattle.amm_model.proofs.LedgerLemmas.{amount_within_sum}
use Rattle.amm_state.specs.Rows.{held_of, table_of}
use Rattle.amm_state.proofs.RowLemmas.{sums-with_row}
use Rattle.amm_state.proofs.rows.AssetRows.issue.Goals as goal

pub add_units-requires : goal.add_units-requires
add_units-requires c = omega (arith, c.self.invariant.0, c.self.invariant.1, amount_within_sum (held_of c.self.inside.rows.entries) c.args.to.now)

pub invariant_of-self-2 : goal.invariant_of-self-2
invariant_of-self-2 c =
    let e = c.in_ok-before.ensures in
    let sums = sums-with_row (table_of c.self.inside.rows.entries) _ c.args.to.now (c.in_ok-before.before + c.args.n) c.in_ok-before.before e.before e.added in
    (omega (arith, c.self.invariant.0, sums), omega (arith, c.self.invariant.1))
