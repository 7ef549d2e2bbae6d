-- Units of one asset that go from one holder to another, in a table of any kind.
use Rattle.std.specs.Prelude.{ℕ, ◌≡◌, ◌+◌, ◌-◌, ◌<◌, ◌≤◌, Result, OnOk, OnErr, IfOk, IfErr}
use Rattle.amm_names.specs.declared.holder.Holder.{Holder}
use Rattle.amm_names.specs.declared.holder.Asset.{Asset}
use Rattle.amm_model.specs.declared.fault.Fault.{Fault}
use Rattle.amm_model.specs.declared.fault.Refusal.TheVariants.{Funds}
use Rattle.amm_model.specs.declared.limits.TheConstants.{AMOUNT_LIMIT}
use Rattle.amm_model.specs.Ledger.{amount, sum_held, holdings_of, balance, total}
use Rattle.amm_state.specs.declared.rows.Before.{Before}
use Rattle.amm_state.specs.Rows.{AssetTable, with_row, Because}
use Rattle.amm_state.specs.Assets.{Tables, with_amount}
use Rattle.amm_state.specs.Book.{BookView, with_balance}

-- the accounts in one asset that a table keeps: what each holder has, what all have together, and
-- the table with another amount at a holder
pub record Accounts (T : Type 0) : Type 0 where
  pub has : Holder → ℕ
  pub sum : ℕ
  pub with_units : Holder → ℕ → T

-- the accounts of a table of one asset
abbrev pub of_rows : AssetTable → Accounts AssetTable
of_rows table = record { has = amount table.held; sum = sum_held table.held; with_units = with_row table }

-- the accounts in this asset, in the tables of all assets
abbrev pub of_asset : Asset → Tables → Accounts Tables
of_asset asset tables = record {
  has = amount (holdings_of tables.holdings asset);
  sum = sum_held (holdings_of tables.holdings asset);
  with_units = with_amount tables asset;
}

-- the accounts in this asset, in a book
abbrev pub of_book : Asset → BookView → Accounts BookView
of_book asset book = record { has = balance book.ledger asset; sum = total book.ledger asset; with_units = with_balance book asset }

-- the table without the n units that the sender gave, of those that it had before
abbrev pub without_units : {T : Type 0} → (T → Accounts T) → T → Holder → ℕ → Before → T
without_units accounts old from n before = (accounts old).with_units from (before.sender - n)

-- n units went from one holder to another, and what the two had before is given; where they are the
-- same, the receiver's is what was left. Or the sender had fewer, or memory was wanted, and nothing
-- has changed
pub record IsMoved {T : Type 0} (accounts : T → Accounts T) (old new : T) (from to : Holder) (n : ℕ) (result : Result Before Fault) : Type 0 where
  pub sender : IfOk result (λ before. before.sender ≡ (accounts old).has from)
  pub funds : IfOk result (λ before. n ≤ before.sender)
  pub receiver : IfOk result (λ before. before.receiver ≡ (accounts (without_units accounts old from n before)).has to)
  pub limit : OnOk result ((accounts old).sum ≤ AMOUNT_LIMIT)
  pub ok : IfOk result (λ before. new ≡ (accounts (without_units accounts old from n before)).with_units to (before.receiver + n))
  pub fault : IfErr result (λ fault. Because fault Funds ((accounts old).has from < n))
  pub err : OnErr result (new ≡ old)
