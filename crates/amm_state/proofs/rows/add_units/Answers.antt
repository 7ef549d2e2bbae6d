use Rattle.std.proofs.Common.{◌≡◌, ℕ, ◌+◌, List, Some, None, is_some, ap, sym, ◌∙◌, arith}
use Rattle.amm_names.specs.declared.holder.Holder.{Holder}
use Rattle.amm_model.specs.Ledger.{amount}
use Rattle.amm_state.specs.Rows.{held_of, table_of, with_row}
use Rattle.amm_state.proofs.RowLemmas.{found_amount, table_of-updated}
use Rattle.amm_state.proofs.rows.add_units.Goals as goal

pub overflow_add-amount : goal.overflow_add-amount
overflow_add-amount c =
    let held : c.in-Some.amount.now ≡ amount (held_of c.args.rows.now.entries) c.args.to.now =
    found_amount c.args.rows.now.entries c.args.to.now (Some c.in-Some.amount.now) c.in-Some.ensures.value in
    omega arith

pub returns-in-Some-clause-before : goal.returns-in-Some-clause-before
returns-in-Some-clause-before c = found_amount c.args.rows.now.entries c.args.to.now (Some c.in-Some.amount.now) c.in-Some.ensures.value

pub returns-in-Some-clause-added : goal.returns-in-Some-clause-added
returns-in-Some-clause-added c =
    let written = c.get_mut.follows.holds (c.in-Some.amount.now + c.args.n) in
    table_of-updated _ _ c.args.to.now (c.in-Some.amount.now + c.args.n) (written.3 (ap is_some (sym c.in-Some.ensures.value))).0

pub returns-clause-before : goal.returns-clause-before
returns-clause-before c = found_amount c.args.rows.now.entries c.args.to.now None c.in_default.ensures.value

pub returns-clause-added : goal.returns-clause-added
returns-clause-added c =
    let sum : c.args.n ≡ 0 + c.args.n = omega arith in
    let was : c.get_mut.follows.lender-at-none.entries ≡ c.args.rows.now.entries = rw c.get_mut.follows.holds-at-none in
    table_of-updated c.get_mut.follows.lender-at-none.entries c.insert.new.self.entries c.args.to.now c.args.n c.in_ok-insert.ensures.updates.0
    ∙ ap (λ (rows : List (Holder × ℕ)). with_row (table_of rows) c.args.to.now c.args.n) was ∙ ap (with_row (table_of c.args.rows.now.entries) c.args.to.now) sum
