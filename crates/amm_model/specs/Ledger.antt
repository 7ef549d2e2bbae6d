-- The ledger: who holds how much of what, the listed tokens, and the pairs.
use Rattle.std.specs.Prelude.{ℕ, zero, suc, ◌+◌, ◌-◌, ◌==◌, nat_eq, Bool, List, [], ◌∷◌, ◌++◌, codes, sum_by, Option, None, slice_get, if◌then◌else◌, false}
use Rattle.std.specs.Option.{unwrap_or}
use Rattle.std.specs.List.{list_any}
use Rattle.std.specs.Map.{lookup, set_value}
use Rattle.std.specs.Cmp.Lexicographic.{pointwise}
use Rattle.std.specs.FinMap as map
use Rattle.amm_names.specs.Names.{Name}
use Rattle.amm_names.specs.declared.holder.Holder.{Holder}
use Rattle.amm_names.specs.declared.holder.Holder.TheVariants.{Zero}
use Rattle.amm_names.specs.declared.holder.Asset.{Asset}
use Rattle.amm_model.specs.declared.pair.PairRecord.{PairRecord}
use Rattle.amm_model.specs.declared.observation.Observation.{Observation}
use Rattle.amm_model.specs.declared.route.Quote.{Quote}
use Rattle.amm_names.specs.Order.{holder_cmp, asset_cmp}

-- what each holder has of one asset, where it has some
abbrev pub Holdings : Type 0
Holdings = map.FinMap holder_cmp ℕ

-- the holdings of each asset of which somebody has some
abbrev pub HoldingsByAsset : Type 0
HoldingsByAsset = map.FinMap asset_cmp Holdings

-- the pairs by the names of their pools, in the order of creation
abbrev pub Pairs : Type 0
Pairs = List (Name × PairRecord)

pub record Ledger : Type 0 where
  pub holdings : HoldingsByAsset
  pub tokens : List Name
  pub pairs : Pairs
  pub fee_to : Holder
  pub setter : Name
  pub time : ℕ
  pub quotes : List Quote
  pub observations : List Observation

-- what a holder has of one asset
unfoldable pub amount : Holdings → Holder → ℕ
amount held holder = unwrap_or (map.get held holder) 0

-- the holdings, with n units at the holder
unfoldable pub set_amount : Holdings → Holder → ℕ → Holdings
set_amount held holder n = if n == 0 then map.remove held holder else map.insert held holder n

-- what all holders have together
unfoldable pub sum_held : Holdings → ℕ
sum_held held = sum_by (λ entry. entry.1) (map.entries held)

unfoldable pub holdings_of : HoldingsByAsset → Asset → Holdings
holdings_of all asset = unwrap_or (map.get all asset) map.empty

-- all holdings, with these of the asset
unfoldable pub set_holdings : HoldingsByAsset → Asset → Holdings → HoldingsByAsset
set_holdings all asset held = if map.len held == 0 then map.remove all asset else map.insert all asset held

-- the balance of a holder in an asset
abbrev pub balance : Ledger → Asset → Holder → ℕ
balance ledger asset holder = amount (holdings_of ledger.holdings asset) holder

-- the sum of all balances in an asset
abbrev pub total : Ledger → Asset → ℕ
total ledger asset = sum_held (holdings_of ledger.holdings asset)

-- nobody has anything
abbrev pub opening_ledger : Ledger
opening_ledger = record { holdings = map.empty; tokens = []; pairs = []; fee_to = Zero; setter = codes "admin"; time = 0; quotes = []; observations = [] }

-- the record of a pool's pair
abbrev pub pair_of : Pairs → Name → Option PairRecord
pair_of pairs pool = lookup (pointwise nat_eq pool) pairs

-- the pairs, with this record for a pool that has a pair
abbrev pub set_pair : Pairs → Name → PairRecord → Pairs
set_pair pairs pool pair = set_value (pointwise nat_eq pool) pairs pair

-- the ledger, with this record for a pool that has a pair
abbrev pub with_pair : Ledger → Name → PairRecord → Ledger
with_pair ledger pool pair = record ledger { pairs = set_pair ledger.pairs pool pair }

-- a pair as it is created
abbrev pub zero_pair : PairRecord
zero_pair = record { r0 = 0; r1 = 0; last = 0; acc0 = 0; acc1 = 0; k_last = 0; locked = false }

-- whether the token is among those listed
abbrev pub is_listed : List Name → Name → Bool
is_listed tokens token = list_any (pointwise nat_eq token) tokens

-- the ledger, with n units of the asset at the holder
abbrev pub set_balance : Ledger → Asset → Holder → ℕ → Ledger
set_balance ledger asset holder n = record ledger { holdings = set_holdings ledger.holdings asset (set_amount (holdings_of ledger.holdings asset) holder n) }

-- the ledger with n more units of the asset at the holder
abbrev pub with_more : Ledger → Asset → Holder → ℕ → Ledger
with_more ledger asset holder n = set_balance ledger asset holder (balance ledger asset holder + n)

-- the ledger with n units fewer
abbrev pub with_less : Ledger → Asset → Holder → ℕ → Ledger
with_less ledger asset holder n = set_balance ledger asset holder (balance ledger asset holder - n)

-- n units go from one holder to another
abbrev pub with_transfer : Ledger → Asset → Holder → Holder → ℕ → Ledger
with_transfer ledger asset from to n = with_more (with_less ledger asset from n) asset to n

-- the ledger with another receiver of the protocol's fee
abbrev pub with_fee_to : Ledger → Holder → Ledger
with_fee_to ledger to = record ledger { fee_to = to }

-- the quote with this number: they are counted from 1 in the order in which they were made
abbrev pub quote_of : List Quote → ℕ → Option Quote
quote_of quotes zero = None
quote_of quotes (suc before) = slice_get quotes before

-- the ledger with one more quote, the last
abbrev pub with_quote : Ledger → Quote → Ledger
with_quote ledger quote = record ledger { quotes = ledger.quotes ++ quote ∷ [] }

-- the observation with this number, counted the same way
abbrev pub observation_at : List Observation → ℕ → Option Observation
observation_at kept zero = None
observation_at kept (suc before) = slice_get kept before

-- the ledger with one more observation, the last
abbrev pub with_observation : Ledger → Observation → Ledger
with_observation ledger observation = record ledger { observations = ledger.observations ++ observation ∷ [] }

-- the ledger with another user who may set that receiver
abbrev pub with_setter : Ledger → Name → Ledger
with_setter ledger to = record ledger { setter = to }
