-- The orders of assets and holders, as the program compares them.
use Rattle.std.specs.Prelude.{Bool}
use Rattle.std.specs.declared.cmp.Ordering.{Ordering}
use Rattle.std.specs.Ordering.{eq_by_cmp}
use Rattle.amm_names.specs.declared.holder.Holder.{Holder}
use Rattle.amm_names.specs.declared.holder.Asset.{Asset}
use Rattle.amm_names.specs.contracts.holder.HolderOrd.TheImpl as holder_ord
use Rattle.amm_names.specs.contracts.holder.AssetOrd.TheImpl as asset_ord

abbrev pub holder_cmp : Holder → Holder → Ordering
holder_cmp = (holder_ord.ghosts).cmp

abbrev pub asset_cmp : Asset → Asset → Ordering
asset_cmp = (asset_ord.ghosts).cmp

abbrev pub same_holder : Holder → Holder → Bool
same_holder = eq_by_cmp holder_cmp

abbrev pub same_asset : Asset → Asset → Bool
same_asset = eq_by_cmp asset_cmp
