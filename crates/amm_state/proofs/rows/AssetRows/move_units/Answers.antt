use Rattle.std.proofs.Common.{◌≡◌, ℕ, ◌+◌, ◌-◌, List, ap, sym, ◌∙◌, arith}
use Rattle.std.proofs.lemmas.Result.{IfOk-at_ok}
use Rattle.amm_names.specs.declared.holder.Holder.{Holder}
use Rattle.amm_model.specs.Ledger.{amount, sum_held}
use Rattle.amm_model.proofs.LedgerLemmas.{amount_within_sum}
use Rattle.amm_state.specs.Rows.{held_of, table_of, with_row}
use Rattle.amm_state.proofs.RowLemmas.{sums-with_row}
use Rattle.amm_state.proofs.rows.AssetRows.move_units.Goals as goal

pub add_units-requires : goal.add_units-requires
add_units-requires c =
    let e = c.in-Some.ensures in
    let taken = sums-with_row (table_of c.reserve.new.self.entries) (table_of c.take_units.new.rows.entries) c.args.from.now (c.in-Some.sender - c.args.n) c.in-Some.sender e.before e.taken in
    let total : c.self.inside.total ≡ sum_held (held_of c.reserve.new.self.entries) = c.self.invariant.0 ∙ sym (ap (λ (rows : List (Holder × ℕ)). sum_held (held_of rows)) c.in_ok-reserve.ensures.entries) in
    omega (arith, total, c.self.invariant.1, e.funds, taken, amount_within_sum (held_of c.take_units.new.rows.entries) c.args.to.now)

pub invariant_of-self-2 : goal.invariant_of-self-2
invariant_of-self-2 c =
    let e = c.in-Some.ensures in
    let taken = sums-with_row (table_of c.reserve.new.self.entries) (table_of c.take_units.new.rows.entries) c.args.from.now (c.in-Some.sender - c.args.n) c.in-Some.sender e.before e.taken in
    let total : c.self.inside.total ≡ sum_held (held_of c.reserve.new.self.entries) = c.self.invariant.0 ∙ sym (ap (λ (rows : List (Holder × ℕ)). sum_held (held_of rows)) c.in_ok-reserve.ensures.entries) in
    let had = IfOk-at_ok (λ before. before ≡ amount (held_of c.take_units.new.rows.entries) c.args.to.now) c.unwrap-receiver.ensures c.add_units.ensures.before in
    let written = IfOk-at_ok (λ before. table_of c.add_units.new.rows.entries ≡ with_row (table_of c.take_units.new.rows.entries) c.args.to.now (before + c.args.n)) c.unwrap-receiver.ensures c.add_units.ensures.added in
    let added = sums-with_row (table_of c.take_units.new.rows.entries) (table_of c.add_units.new.rows.entries) c.args.to.now (c.unwrap-receiver.result + c.args.n) c.unwrap-receiver.result had written in
    (omega (arith, total, e.funds, taken, added), c.self.invariant.1)
