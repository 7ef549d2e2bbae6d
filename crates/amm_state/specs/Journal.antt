-- What a journal says of the ledger that it leads back to.
use Rattle.std.specs.Prelude.{ℕ, ◌+◌, ◌-◌, ◌≤◌, List, [], ◌∷◌, take, length, IsTrue, refl}
use Rattle.amm_model.specs.Ledger.{Ledger, holdings_of, balance, total, set_balance, set_pair, with_fee_to, with_setter}
use Rattle.amm_model.specs.declared.limits.TheConstants.{AMOUNT_LIMIT}
use Rattle.amm_model.specs.Tidy.{IsTidy, IsTidyByAsset}
use Rattle.amm_state.specs.declared.journal.Undo.{Undo}
use Rattle.amm_state.specs.declared.journal.Undo.TheVariants.{Balance, Token, NewPair, Pair, NewQuote, NewObservation, FeeTo, Setter, Time}
use Rattle.amm_names.specs.declared.holder.Asset.{Asset}
use Rattle.amm_state.specs.Assets.{Rows, has_row}
use Rattle.amm_state.specs.Book.{BookView, without_token, without_quote, without_observation, with_pairs, with_time}
use Rattle.amm_model.specs.Sound.{IsAtRest}
use Rattle.std.specs.Coded.{Coded, code_by, coded×, coded_ℕ, coded_list}
use Rattle.amm_state.specs.contracts.journal.Undo as undos

abbrev pub undo_code : Coded Undo
undo_code = undos.the_row.coded

-- the changes that a journal has noted, the newest first, and how many more it has room for
pub record Notes : Type 0 where
  pub changes : List Undo
  pub room : ℕ

abbrev pub notes_code : Coded Notes
notes_code = code_by (List Undo × ℕ) (coded× (coded_list undo_code) coded_ℕ) (λ n. (n.changes, n.room)) (λ p. record { changes = p.0; room = p.1 }) (λ _. refl)

-- the ledger before a change
abbrev pub undo : Undo → Ledger → Ledger
undo (Balance asset holder n) ledger = set_balance ledger asset holder n
undo Token ledger = without_token ledger
undo NewPair ledger = with_pairs ledger (take (length ledger.pairs - 1) ledger.pairs)
undo (Pair pool pair) ledger = with_pairs ledger (set_pair ledger.pairs pool pair)
undo NewQuote ledger = without_quote ledger
undo NewObservation ledger = without_observation ledger
undo (FeeTo holder) ledger = with_fee_to ledger holder
undo (Setter user) ledger = with_setter ledger user
undo (Time time) ledger = with_time ledger time

-- the ledger before all changes, the newest first
abbrev pub undo_all : List Undo → Ledger → Ledger
undo_all [] ledger = ledger
undo_all (change ∷ changes) ledger = undo_all changes (undo change ledger)

-- no total passes its limit on the way back
abbrev pub StaysWithin : List Undo → Ledger → Type 0
StaysWithin [] ledger = Unit {0}
StaysWithin (Balance asset holder n ∷ changes) ledger = (total ledger asset - balance ledger asset holder + n ≤ AMOUNT_LIMIT) × StaysWithin changes (set_balance ledger asset holder n)
StaysWithin (change ∷ changes) ledger = StaysWithin changes (undo change ledger)

-- each account that is to be restored has a row
abbrev pub HasRows : List Undo → Rows → Type 0
HasRows [] rows = Unit {0}
HasRows (Balance asset holder n ∷ changes) rows = IsTrue (has_row rows asset holder) × HasRows changes rows
HasRows (_ ∷ changes) rows = HasRows changes rows

-- each holding of the ledger is of some units: two such ledgers with the same balances are the same
pub record IsCanonical (ledger : Ledger) : Type 0 where
  pub amounts : (asset : Asset) → IsTidy (holdings_of ledger.holdings asset)
  pub assets : IsTidyByAsset ledger.holdings

-- where a transaction can go back to: said by one word, so that the proofs of the steps do not look
-- into it
unfoldable pub IsStart : Ledger → Type 0
IsStart ledger = IsAtRest ledger × IsCanonical ledger

-- the changes can be undone on the book with no memory, and lead to a ledger at rest
pub record IsRevertible (changes : List Undo) (book : BookView) : Type 0 where
  pub within : StaysWithin changes book.ledger
  pub rows : HasRows changes book.rows
  pub start : IsStart (undo_all changes book.ledger)
  pub canonical : IsCanonical book.ledger
