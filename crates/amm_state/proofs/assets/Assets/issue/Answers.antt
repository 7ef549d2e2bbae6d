use Rattle.std.proofs.Common.{◌≡◌, ◌+◌, ◌<◌, ◌≤◌, List, Some, None, is_some, ap, sym, subst, ◌∙◌, OnOk, IfOk, IfErr}
use Rattle.std.specs.Map.{lookup}
use Rattle.std.proofs.lemmas.Result.{IfOk-weaker, on_err_weaker, err_from_is_err_and}
use Rattle.amm_names.specs.declared.holder.Asset.{Asset}
use Rattle.amm_model.specs.declared.fault.Refusal.TheVariants.{TotalLimit}
use Rattle.amm_model.specs.Ledger.{amount, sum_held}
use Rattle.amm_model.specs.declared.limits.TheConstants.{AMOUNT_LIMIT}
use Rattle.amm_state.specs.Rows.{AssetTable, Because, empty_table, with_row}
use Rattle.amm_state.specs.Assets.{tables_of}
use Rattle.amm_state.proofs.AssetLemmas.{eq, found_table, put_in_place, put_new, tables_of-rewritten}
use Rattle.amm_state.proofs.assets.Assets.issue.Goals as goal

pub returns-in-Some-clause-before : goal.returns-in-Some-clause-before
returns-in-Some-clause-before c =
    let e = found_table c.self.inside.tables.entries c.args.asset.now (Some c.in-Some.rows.now) _ c.self.view_is c.in-Some.ensures.value in
    subst (λ (t : AssetTable). IfOk c.issue.result (λ before. before ≡ amount t.held c.args.to.now)) e c.issue.ensures.before

pub returns-in-Some-clause-limit : goal.returns-in-Some-clause-limit
returns-in-Some-clause-limit c =
    let e = found_table c.self.inside.tables.entries c.args.asset.now (Some c.in-Some.rows.now) _ c.self.view_is c.in-Some.ensures.value in
    subst (λ (t : AssetTable). OnOk c.issue.result (sum_held t.held + c.args.n ≤ AMOUNT_LIMIT)) e c.issue.ensures.limit

pub returns-in-Some-clause-ok : goal.returns-in-Some-clause-ok
returns-in-Some-clause-ok c =
    let updates = ((c.get_mut.follows.holds c.issue.new.self).3 (ap is_some (sym c.in-Some.ensures.value))).0 in
    IfOk-weaker c.issue.result _ _ (λ before written.
    put_in_place c.self.inside.tables.entries _ c.args.asset.now c.in-Some.rows.now c.issue.new.self (λ t. with_row t c.args.to.now (before + c.args.n)) _ c.self.view_is updates c.in-Some.ensures.value written) c.issue.ensures.ok

pub returns-in-Some-clause-fault : goal.returns-in-Some-clause-fault
returns-in-Some-clause-fault c =
    let e = found_table c.self.inside.tables.entries c.args.asset.now (Some c.in-Some.rows.now) _ c.self.view_is c.in-Some.ensures.value in
    subst (λ (t : AssetTable). IfErr c.issue.result (λ fault. Because fault TotalLimit (AMOUNT_LIMIT < sum_held t.held + c.args.n))) e c.issue.ensures.fault

pub returns-in-Some-clause-err : goal.returns-in-Some-clause-err
returns-in-Some-clause-err c =
    let updates = ((c.get_mut.follows.holds c.issue.new.self).3 (ap is_some (sym c.in-Some.ensures.value))).0 in
    on_err_weaker c.issue.result (λ same. tables_of-rewritten c.self.inside.tables.entries _ c.args.asset.now c.issue.new.self updates (ap Some same ∙ c.in-Some.ensures.value) ∙ c.self.view_is) c.issue.ensures.err

pub returns-in_err-before-clause-fault : goal.returns-in_err-before-clause-fault
returns-in_err-before-clause-fault c =
    let e = c.new-rows.ensures ∙ found_table c.self.inside.tables.entries c.args.asset.now None _ c.self.view_is c.in_default.ensures.value in
    let p = err_from_is_err_and c.from_residual.result c.from_residual.ensures.1 in
    rw (p.1, p.2) (subst (λ (t : AssetTable). Because c.in_err-before.field-0.0 TotalLimit (AMOUNT_LIMIT < sum_held t.held + c.args.n)) e c.in_err-before.ensures.fault)

pub returns-clause-before : goal.returns-clause-before
returns-clause-before c =
    let e = c.new-rows.ensures ∙ found_table c.self.inside.tables.entries c.args.asset.now None _ c.self.view_is c.in_default.ensures.value in
    c.in_ok-before.ensures.before ∙ ap (λ (t : AssetTable). amount t.held c.args.to.now) e

pub returns-clause-limit : goal.returns-clause-limit
returns-clause-limit c =
    let e = c.new-rows.ensures ∙ found_table c.self.inside.tables.entries c.args.asset.now None _ c.self.view_is c.in_default.ensures.value in
    subst (λ (t : AssetTable). sum_held t.held + c.args.n ≤ AMOUNT_LIMIT) e c.in_ok-before.ensures.limit

pub returns-clause-ok : goal.returns-clause-ok
returns-clause-ok c =
    let was : c.get_mut.follows.lender-at-none.entries ≡ c.self.inside.tables.entries = rw c.get_mut.follows.holds-at-none in
    let none : None ≡ lookup (eq c.args.asset.now) c.get_mut.follows.lender-at-none.entries = rw was c.in_default.ensures.value in
    let written : c.issue-2.new.self ≡ with_row empty_table c.args.to.now (c.in_ok-before.before + c.args.n) =
    c.in_ok-before.ensures.ok ∙ ap (λ (t : AssetTable). with_row t c.args.to.now (c.in_ok-before.before + c.args.n)) c.new-rows.ensures in
    put_new c.get_mut.follows.lender-at-none.entries c.insert.new.self.entries c.args.asset.now c.issue-2.new.self (λ t. with_row t c.args.to.now (c.in_ok-before.before + c.args.n)) _ (ap (λ (entries : List (Asset × AssetTable)). tables_of entries) was ∙ c.self.view_is)
    c.in_ok-insert.ensures.updates.0 none written
