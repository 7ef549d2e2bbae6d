use Rattle.std.proofs.Common.{◌≡◌, ◌-◌, Some, None, is_some, ap, sym, ◌∙◌, arith}
use Rattle.std.proofs.lemmas.Map.Steps.{set_value_same}
use Rattle.amm_model.specs.Ledger.{amount}
use Rattle.amm_state.specs.Rows.{held_of}
use Rattle.amm_state.proofs.RowLemmas.{eq, found_amount, table_of-updated}
use Rattle.amm_state.proofs.rows.take_units.Goals as goal

pub returns-in_default-clause-short : goal.returns-in_default-clause-short
returns-in_default-clause-short c =
    let none = found_amount c.args.rows.now.entries c.args.from.now None c.in_default.ensures.value in
    omega (arith, none)

pub returns-then-before-n-clause-short : goal.returns-then-before-n-clause-short
returns-then-before-n-clause-short c =
    let held : c.in-Some.amount.now ≡ amount (held_of c.args.rows.now.entries) c.args.from.now =
    found_amount c.args.rows.now.entries c.args.from.now (Some c.in-Some.amount.now) c.in-Some.ensures.value in
    omega arith

pub returns-then-before-n-clause-unchanged : goal.returns-then-before-n-clause-unchanged
returns-then-before-n-clause-unchanged c =
    (c.get_mut.follows.holds c.in-Some.amount.now).0 ∙ set_value_same (eq c.args.from.now) c.args.rows.now.entries c.in-Some.amount.now (sym c.in-Some.ensures.value)

pub returns-clause-before : goal.returns-clause-before
returns-clause-before c = found_amount c.args.rows.now.entries c.args.from.now (Some c.in-Some.amount.now) c.in-Some.ensures.value

pub returns-clause-taken : goal.returns-clause-taken
returns-clause-taken c =
    let written = c.get_mut.follows.holds (c.in-Some.amount.now - c.args.n) in
    table_of-updated _ _ c.args.from.now (c.in-Some.amount.now - c.args.n) (written.3 (ap is_some (sym c.in-Some.ensures.value))).0
