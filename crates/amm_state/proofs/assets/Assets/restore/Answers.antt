use Rattle.std.proofs.Common.{◌+◌, ◌-◌, ◌≤◌, Some, None, true≢false, is_some, ap, sym, subst, ◌∙◌}
use Rattle.std.specs.FinSet as set
use Rattle.amm_names.specs.Order.{holder_cmp}
use Rattle.amm_model.specs.Ledger.{amount, sum_held}
use Rattle.amm_model.specs.declared.limits.TheConstants.{AMOUNT_LIMIT}
use Rattle.amm_state.specs.Rows.{AssetTable, with_row}
use Rattle.amm_state.proofs.AssetLemmas.{found_table, put_in_place}
use Rattle.amm_state.proofs.assets.Assets.restore.Goals as goal

pub restore-requires-clause-row : goal.restore-requires-clause-row
restore-requires-clause-row c =
    let e = found_table c.self.inside.tables.entries c.args.asset.now (Some c.in-Some.rows.now) _ c.self.view_is c.in-Some.ensures.value in
    ap (λ (t : AssetTable). set.contains t.rows c.args.holder.now) e ∙ c.requires.row

pub restore-requires-clause-limit : goal.restore-requires-clause-limit
restore-requires-clause-limit c =
    let e = found_table c.self.inside.tables.entries c.args.asset.now (Some c.in-Some.rows.now) _ c.self.view_is c.in-Some.ensures.value in
    subst (λ (t : AssetTable). sum_held t.held - amount t.held c.args.holder.now + c.args.n ≤ AMOUNT_LIMIT) (sym e) c.requires.limit

pub returns : goal.returns
returns c =
    let updates = ((c.get_mut.follows.holds c.restore.new.self).3 (ap is_some (sym c.in-Some.ensures.value))).0 in
    put_in_place c.self.inside.tables.entries _ c.args.asset.now c.in-Some.rows.now c.restore.new.self (λ t. with_row t c.args.holder.now c.args.n) _ c.self.view_is updates c.in-Some.ensures.value c.restore.ensures

pub returns-in_default : goal.returns-in_default
returns-in_default c =
    let e = found_table c.self.inside.tables.entries c.args.asset.now None _ c.self.view_is c.in_default.ensures.value in
    let missing = ap (λ (t : AssetTable). set.contains t.rows c.args.holder.now) e in
    absurd (true≢false (sym c.requires.row ∙ sym missing ∙ set.contains-empty holder_cmp c.args.holder.now))
