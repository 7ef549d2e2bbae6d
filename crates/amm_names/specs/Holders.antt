-- How holders and assets are written.
use Rattle.std.specs.Prelude.{ℕ, if◌then◌else◌, Option, Some, None, List, codes}
use Rattle.std.specs.Str.{bytes_eq}
use Rattle.amm_names.specs.Names.{is_token_name, is_user_name}
use Rattle.amm_names.specs.Pools.{is_pool_name}
use Rattle.amm_names.specs.declared.holder.Holder.{Holder}
use Rattle.amm_names.specs.declared.holder.Holder.TheVariants as holders
use Rattle.amm_names.specs.declared.holder.Asset.{Asset}
use Rattle.amm_names.specs.declared.holder.Asset.TheVariants as assets

-- the zero holder is written `0`
unfoldable pub holder_of : List ℕ → Option Holder
holder_of bytes =
    if bytes_eq bytes (codes "0") then Some holders.Zero
    else (if is_user_name bytes then Some (holders.User bytes)
    else (if is_token_name bytes then Some (holders.Token bytes)
    else (if is_pool_name bytes then Some (holders.Pool bytes) else None)))

-- the shares of a pool are written as the pool
unfoldable pub asset_of : List ℕ → Option Asset
asset_of bytes =
    if is_token_name bytes then Some (assets.Token bytes)
    else (if is_pool_name bytes then Some (assets.Share bytes) else None)
