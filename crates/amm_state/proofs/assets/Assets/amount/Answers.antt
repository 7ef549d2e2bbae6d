use Rattle.std.proofs.Common.{Some, None, ap, sym, ◌∙◌}
use Rattle.amm_model.specs.Ledger.{amount}
use Rattle.amm_model.proofs.LedgerLemmas.{amount-empty}
use Rattle.amm_state.specs.Rows.{AssetTable}
use Rattle.amm_state.proofs.AssetLemmas.{found_table}
use Rattle.amm_state.proofs.assets.Assets.amount.Goals as goal

pub returns-in-Some-clause-amount : goal.returns-in-Some-clause-amount
returns-in-Some-clause-amount c =
    c.amount.ensures.amount ∙ ap (λ (t : AssetTable). amount t.held c.args.holder.now) (found_table c.self.inside.tables.entries c.args.asset.now (Some c.in-Some.rows.now) _ c.self.view_is c.in-Some.ensures.value)

pub returns-in-None-clause-amount : goal.returns-in-None-clause-amount
returns-in-None-clause-amount c =
    sym (amount-empty c.args.holder.now) ∙ ap (λ (t : AssetTable). amount t.held c.args.holder.now) (found_table c.self.inside.tables.entries c.args.asset.now None _ c.self.view_is c.in-None.ensures.value)
