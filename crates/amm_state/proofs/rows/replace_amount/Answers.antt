use Rattle.std.proofs.Common.{Some, is_some, ap, sym, ◌∙◌}
use Rattle.amm_state.specs.Rows.{table_of, with_row}
use Rattle.amm_state.proofs.RowLemmas.{found_amount, table_of-updated, contains-holders_of}
use Rattle.amm_state.proofs.rows.replace_amount.Goals as goal

pub returns-in-Some-clause-found : goal.returns-in-Some-clause-found
returns-in-Some-clause-found c = ap is_some c.in-Some.ensures.value ∙ sym (contains-holders_of c.args.rows.now.entries c.args.holder.now)

pub returns-in-Some-clause-before : goal.returns-in-Some-clause-before
returns-in-Some-clause-before c = c.replace.ensures.value ∙ found_amount c.args.rows.now.entries c.args.holder.now (Some c.in-Some.amount.now) c.in-Some.ensures.value

pub returns-in-Some-clause-written : goal.returns-in-Some-clause-written
returns-in-Some-clause-written c =
    let written = c.get_mut.follows.holds c.replace.new.dest in
    table_of-updated _ _ c.args.holder.now c.replace.new.dest (written.3 (ap is_some (sym c.in-Some.ensures.value))).0
    ∙ ap (with_row (table_of c.args.rows.now.entries) c.args.holder.now) c.replace.ensures.after

pub returns-in-None-clause-found : goal.returns-in-None-clause-found
returns-in-None-clause-found c = ap is_some c.in-None.ensures.value ∙ sym (contains-holders_of c.args.rows.now.entries c.args.holder.now)
