use Rattle.std.proofs.Common.{◌-◌, arith}
use Rattle.amm_model.proofs.LedgerLemmas.{amount_within_sum}
use Rattle.amm_state.specs.Rows.{held_of, table_of}
use Rattle.amm_state.proofs.RowLemmas.{sums-with_row}
use Rattle.amm_state.proofs.rows.AssetRows.retire.Goals as goal

pub overflow_sub-self : goal.overflow_sub-self
overflow_sub-self c = omega (arith, c.self.invariant.0, c.in-Some.ensures.before, c.in-Some.ensures.funds, amount_within_sum (held_of c.self.inside.rows.entries) c.args.from.now)

pub invariant_of-self-2 : goal.invariant_of-self-2
invariant_of-self-2 c =
    let e = c.in-Some.ensures in
    let sums = sums-with_row (table_of c.self.inside.rows.entries) _ c.args.from.now (c.in-Some.before - c.args.n) c.in-Some.before e.before e.taken in
    (omega (arith, c.self.invariant.0, e.funds, sums), omega (arith, c.self.invariant.1))
