-- What the rows of a table mean.
use Rattle.std.specs.Prelude.{ℕ, List, [], ◌∷◌, ◌≡◌, refl}
use Rattle.std.specs.Coded.{Coded, code_by, coded×}
use Rattle.std.specs.FinMap as map
use Rattle.std.specs.FinSet as set
use Rattle.amm_names.specs.declared.holder.Holder.{Holder}
use Rattle.amm_names.specs.contracts.holder.Holder as holder
use Rattle.amm_names.specs.Order.{holder_cmp}
use Rattle.amm_model.specs.declared.fault.Fault.{Fault}
use Rattle.amm_model.specs.declared.fault.Fault.TheVariants as fault
use Rattle.amm_model.specs.declared.fault.Refusal.{Refusal}
use Rattle.amm_model.specs.Ledger.{Holdings, set_amount}
use Rattle.amm_model.specs.Codes.{holdings_code}

-- the holders that have a row, which may say 0
abbrev pub Holders : Type 0
Holders = set.FinSet holder_cmp

-- a table of one asset: what is held, and who has a row
pub record AssetTable : Type 0 where
  pub held : Holdings
  pub rows : Holders

abbrev pub holders_code : Coded Holders
holders_code = set.code holder.the_row.coded

abbrev pub asset_table_code : Coded AssetTable
asset_table_code = code_by (Holdings × Holders) (coded× holdings_code holders_code) (λ t. (t.held, t.rows)) (λ p. record { held = p.0; rows = p.1 }) (λ _. refl)

-- what the holders have, by the first row of each
unfoldable pub held_of : List (Holder × ℕ) → Holdings
held_of [] = map.empty
held_of (row ∷ rows) = set_amount (held_of rows) row.0 row.1

unfoldable pub holders_of : List (Holder × ℕ) → Holders
holders_of [] = set.empty
holders_of (row ∷ rows) = set.insert (holders_of rows) row.0

-- the table of these rows
abbrev pub table_of : List (Holder × ℕ) → AssetTable
table_of rows = record { held = held_of rows; rows = holders_of rows }

abbrev pub empty_table : AssetTable
empty_table = record { held = map.empty; rows = set.empty }

-- the table with n units at the holder, which then has a row
abbrev pub with_row : AssetTable → Holder → ℕ → AssetTable
with_row table holder n = record { held = set_amount table.held holder n; rows = set.insert table.rows holder }

-- a fault is this refusal, for this cause, or want of memory
abbrev pub Because : Fault → Refusal → Type 0 → Type 0
Because (fault.Refused why) code cause = (why ≡ code) × cause
Because fault.Memory code cause = Unit {0}
