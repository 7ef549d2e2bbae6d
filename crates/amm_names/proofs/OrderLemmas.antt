-- The orders of holders and assets are total, only equal names tie, and `==` answers as they do.
use Rattle.std.proofs.Common.{◌≡◌, true, refl, sym, ap, ◌∙◌}
use Rattle.std.specs.Cmp.{IsTotalOrder, Equal-is}
use Rattle.std.specs.Ordering.{nat_cmp}
use Rattle.std.specs.Cmp.Lexicographic.{slice_cmp}
use Rattle.std.specs.FinMap.{IsAntisymmetric, slice_cmp-IsAntisymmetric, nat_cmp-IsAntisymmetric}
use Rattle.amm_names.specs.declared.holder.Holder.{Holder}
use Rattle.amm_names.specs.declared.holder.Asset.{Asset}
use Rattle.amm_names.specs.declared.holder.Holder.TheVariants as holder
use Rattle.amm_names.specs.declared.holder.Asset.TheVariants as asset
use Rattle.amm_names.specs.Order.{holder_cmp, asset_cmp, same_holder, same_asset}
use Rattle.amm_names.specs.contracts.holder.HolderPartialEq.TheImpl as holder_is
use Rattle.amm_names.specs.contracts.holder.AssetPartialEq.TheImpl as asset_is
use Rattle.amm_names.specs.contracts.holder.HolderOrd.TheImpl.Laws as holder_laws
use Rattle.amm_names.specs.contracts.holder.AssetOrd.TheImpl.Laws as asset_laws

pub holder_total : IsTotalOrder holder_cmp
holder_total = holder_laws.total-law

pub asset_total : IsTotalOrder asset_cmp
asset_total = asset_laws.total-law

same_name : IsAntisymmetric (slice_cmp nat_cmp)
same_name = slice_cmp-IsAntisymmetric nat_cmp-IsAntisymmetric

pub holder_antisymmetric : IsAntisymmetric holder_cmp
holder_antisymmetric (holder.User x) (holder.User y) e = ap holder.User (same_name x y e)
holder_antisymmetric (holder.Pool x) (holder.Pool y) e = ap holder.Pool (same_name x y e)
holder_antisymmetric (holder.Token x) (holder.Token y) e = ap holder.Token (same_name x y e)
holder_antisymmetric holder.Zero holder.Zero e = refl
holder_antisymmetric x y e = cc

pub asset_antisymmetric : IsAntisymmetric asset_cmp
asset_antisymmetric (asset.Token x) (asset.Token y) e = ap asset.Token (same_name x y e)
asset_antisymmetric (asset.Share x) (asset.Share y) e = ap asset.Share (same_name x y e)
asset_antisymmetric (asset.Token x) (asset.Share y) e = cc
asset_antisymmetric (asset.Share x) (asset.Token y) e = cc

-- `==` on holders answers as their order does
pub holder_eq : (x y : Holder) → (holder_is.ghosts).eq x y ≡ same_holder x y
holder_eq = holder_laws.matches_eq-law

pub asset_eq : (x y : Asset) → (asset_is.ghosts).eq x y ≡ same_asset x y
asset_eq = asset_laws.matches_eq-law

-- equal assets are one asset
pub asset_equal : (x y : Asset) → (asset_is.ghosts).eq x y ≡ true → x ≡ y
asset_equal x y e = asset_antisymmetric x y ((Equal-is (asset_cmp x y)).0 (sym (asset_eq x y) ∙ e))
