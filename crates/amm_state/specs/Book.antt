-- What contracts see of a book: the ledger, and which accounts have a row.
use Rattle.std.specs.Prelude.{ℕ, [], ◌∷◌, ◌++◌, ◌-◌, take, length, refl}
use Rattle.std.specs.Coded.{Coded, code_by, coded×}
use Rattle.std.specs.FinMap as map
use Rattle.std.specs.FinSet as set
use Rattle.amm_names.specs.Names.{Name}
use Rattle.amm_names.specs.declared.holder.Holder.{Holder}
use Rattle.amm_names.specs.declared.holder.Asset.{Asset}
use Rattle.amm_model.specs.Ledger.{Pairs, Ledger, set_balance}
use Rattle.amm_model.specs.Codes.{ledger_code}
use Rattle.amm_state.specs.Assets.{Rows, rows_code, holders_at}

-- the ledger that a book keeps, and the accounts that have a row
pub record BookView : Type 0 where
  pub ledger : Ledger
  pub rows : Rows

abbrev pub book_code : Coded BookView
book_code = code_by (Ledger × Rows) (coded× ledger_code rows_code) (λ b. (b.ledger, b.rows)) (λ p. record { ledger = p.0; rows = p.1 }) (λ _. refl)

-- the book with n units of the asset at the holder, which then has a row
abbrev pub with_balance : BookView → Asset → Holder → ℕ → BookView
with_balance book asset holder n = record {
  ledger = set_balance book.ledger asset holder n;
  rows = map.insert book.rows asset (set.insert (holders_at book.rows asset) holder);
}

-- the book with another ledger, where the holdings stay
abbrev pub with_ledger : BookView → Ledger → BookView
with_ledger book ledger = record book { ledger = ledger }

-- the ledger with one more token, listed last
abbrev pub with_token : Ledger → Name → Ledger
with_token ledger token = record ledger { tokens = ledger.tokens ++ token ∷ [] }

-- the ledger without the token that was listed last
abbrev pub without_token : Ledger → Ledger
without_token ledger = record ledger { tokens = take (length ledger.tokens - 1) ledger.tokens }

-- the ledger without the quote that was kept last
abbrev pub without_quote : Ledger → Ledger
without_quote ledger = record ledger { quotes = take (length ledger.quotes - 1) ledger.quotes }

-- the ledger without the observation that was kept last
abbrev pub without_observation : Ledger → Ledger
without_observation ledger = record ledger { observations = take (length ledger.observations - 1) ledger.observations }

-- the ledger with these pairs
abbrev pub with_pairs : Ledger → Pairs → Ledger
with_pairs ledger pairs = record ledger { pairs = pairs }

-- the ledger at this time
abbrev pub with_time : Ledger → ℕ → Ledger
with_time ledger time = record ledger { time = time }
