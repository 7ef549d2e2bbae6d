use Rattle.std.proofs.Common.{ap, sym, ◌∙◌}
use Rattle.std.specs.Cmp.{Equal-is}
use Rattle.amm_names.specs.Order.{holder_cmp, asset_cmp, same_holder, same_asset}
use Rattle.amm_names.proofs.OrderLemmas.{holder_antisymmetric, asset_antisymmetric}
use Rattle.amm_model.proofs.LedgerLemmas.{same_holder_itself, same_asset_itself}
use Rattle.amm_model.proofs.laws.equal_accounts_are_one.Goals as goal

pub returns-clause-holders : goal.returns-clause-holders
returns-clause-holders c a b =
    (λ e. holder_antisymmetric a b ((Equal-is (holder_cmp a b)).0 e), λ e. ap (same_holder a) (sym e) ∙ same_holder_itself a)

pub returns-clause-assets : goal.returns-clause-assets
returns-clause-assets c a b =
    (λ e. asset_antisymmetric a b ((Equal-is (asset_cmp a b)).0 e), λ e. ap (same_asset a) (sym e) ∙ same_asset_itself a)
