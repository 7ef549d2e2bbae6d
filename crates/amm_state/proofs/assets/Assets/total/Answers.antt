use Rattle.std.proofs.Common.{Some, None, ap, sym, ◌∙◌}
use Rattle.amm_model.specs.Ledger.{sum_held}
use Rattle.amm_model.proofs.LedgerLemmas.{sum_held-empty}
use Rattle.amm_state.specs.Rows.{AssetTable}
use Rattle.amm_state.proofs.AssetLemmas.{found_table}
use Rattle.amm_state.proofs.assets.Assets.total.Goals as goal

pub returns-in-Some-clause-sum : goal.returns-in-Some-clause-sum
returns-in-Some-clause-sum c =
    c.total.ensures.sum ∙ ap (λ (t : AssetTable). sum_held t.held) (found_table c.self.inside.tables.entries c.args.asset.now (Some c.in-Some.rows.now) _ c.self.view_is c.in-Some.ensures.value)

pub returns-in-None-clause-sum : goal.returns-in-None-clause-sum
returns-in-None-clause-sum c =
    sym (sum_held-empty) ∙ ap (λ (t : AssetTable). sum_held t.held) (found_table c.self.inside.tables.entries c.args.asset.now None _ c.self.view_is c.in-None.ensures.value)
