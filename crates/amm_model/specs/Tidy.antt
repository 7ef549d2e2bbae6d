-- Holdings with no row for nothing, so that two ledgers with the same balances are the same.
use Rattle.std.specs.Prelude.{◌≡◌, ◌==◌, cond, None, Some}
use Rattle.std.specs.FinMap as map
use Rattle.amm_names.specs.declared.holder.Holder.{Holder}
use Rattle.amm_names.specs.declared.holder.Asset.{Asset}
use Rattle.amm_model.specs.Ledger.{Holdings, HoldingsByAsset, amount, holdings_of}

-- no row says 0
abbrev pub IsTidy : Holdings → Type 0
IsTidy held = (holder : Holder) → map.get held holder ≡ cond (amount held holder == 0) None (Some (amount held holder))

-- no asset is listed of which nobody has any
abbrev pub IsTidyByAsset : HoldingsByAsset → Type 0
IsTidyByAsset all = (asset : Asset) → map.get all asset ≡ cond (map.len (holdings_of all asset) == 0) None (Some (holdings_of all asset))
