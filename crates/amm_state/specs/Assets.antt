-- What contracts see of the tables of all assets.
use Rattle.std.specs.Prelude.{ℕ, List, [], ◌∷◌, Bool, refl}
use Rattle.std.specs.Coded.{Coded, code_by, coded×}
use Rattle.std.specs.Option.{unwrap_or}
use Rattle.std.specs.FinMap as map
use Rattle.std.specs.FinSet as set
use Rattle.amm_names.specs.declared.holder.Holder.{Holder}
use Rattle.amm_names.specs.declared.holder.Asset.{Asset}
use Rattle.amm_names.specs.contracts.holder.Asset as asset
use Rattle.amm_names.specs.Order.{asset_cmp}
use Rattle.amm_model.specs.Ledger.{HoldingsByAsset, holdings_of, set_holdings}
use Rattle.amm_model.specs.Codes.{holdings_by_asset_code}
use Rattle.amm_state.specs.Rows.{Holders, holders_code, AssetTable, with_row}

-- the holders that have a row, for each asset
abbrev pub Rows : Type 0
Rows = map.FinMap asset_cmp Holders

abbrev pub rows_code : Coded Rows
rows_code = map.code asset.the_row.coded holders_code

-- the tables of all assets
pub record Tables : Type 0 where
  pub holdings : HoldingsByAsset
  pub rows : Rows

abbrev pub tables_code : Coded Tables
tables_code = code_by (HoldingsByAsset × Rows) (coded× holdings_by_asset_code rows_code) (λ t. (t.holdings, t.rows)) (λ p. record { holdings = p.0; rows = p.1 }) (λ _. refl)

unfoldable pub holders_at : Rows → Asset → Holders
holders_at rows asset = unwrap_or (map.get rows asset) set.empty

unfoldable pub holdings_in : List (Asset × AssetTable) → HoldingsByAsset
holdings_in [] = map.empty
holdings_in (entry ∷ entries) = set_holdings (holdings_in entries) entry.0 entry.1.held

unfoldable pub rows_in : List (Asset × AssetTable) → Rows
rows_in [] = map.empty
rows_in (entry ∷ entries) = map.insert (rows_in entries) entry.0 entry.1.rows

abbrev pub tables_of : List (Asset × AssetTable) → Tables
tables_of entries = record { holdings = holdings_in entries; rows = rows_in entries }

abbrev pub table_at : Tables → Asset → AssetTable
table_at tables asset = record { held = holdings_of tables.holdings asset; rows = holders_at tables.rows asset }

abbrev pub with_table : Tables → Asset → AssetTable → Tables
with_table tables asset table = record { holdings = set_holdings tables.holdings asset table.held; rows = map.insert tables.rows asset table.rows }

-- the tables with n units of the asset at the holder
abbrev pub with_amount : Tables → Asset → Holder → ℕ → Tables
with_amount tables asset holder n = with_table tables asset (with_row (table_at tables asset) holder n)

-- whether the account has a row
abbrev pub has_row : Rows → Asset → Holder → Bool
has_row rows asset holder = set.contains (holders_at rows asset) holder
