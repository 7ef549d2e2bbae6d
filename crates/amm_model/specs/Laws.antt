-- What every accepted line keeps.
use Rattle.std.specs.Prelude.{◌≡◌, ◌≢◌, ℕ, ◌+◌, ◌≤◌}
use Rattle.amm_names.specs.Names.{Name}
use Rattle.amm_names.specs.declared.holder.Holder.TheVariants as holder
use Rattle.amm_names.specs.declared.holder.Asset.{Asset}
use Rattle.amm_names.specs.declared.holder.Asset.TheVariants as asset
use Rattle.amm_model.specs.Ledger.{Ledger, balance, total}

-- what the zero holder has of each asset did not fall
abbrev pub ZeroKept : Ledger → Ledger → Type 0
ZeroKept old new = (q : Asset) → balance old q holder.Zero ≤ balance new q holder.Zero

-- the total of each token is the same
abbrev pub TokenTotalsKept : Ledger → Ledger → Type 0
TokenTotalsKept old new = (token : Name) → total new (asset.Token token) ≡ total old (asset.Token token)

-- the total of the token rose by n, and that of each other is the same
pub record Deposited (token : Name) (n : ℕ) (old new : Ledger) : Type 0 where
  pub here : total new (asset.Token token) ≡ total old (asset.Token token) + n
  pub others : (other : Name) → other ≢ token → total new (asset.Token other) ≡ total old (asset.Token other)

-- the total of the token fell by n, and that of each other is the same
pub record Withdrawn (token : Name) (n : ℕ) (old new : Ledger) : Type 0 where
  pub here : total new (asset.Token token) + n ≡ total old (asset.Token token)
  pub others : (other : Name) → other ≢ token → total new (asset.Token other) ≡ total old (asset.Token other)
