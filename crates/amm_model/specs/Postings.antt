-- How units, listed tokens, pairs, quotes and the time change, and when a change is refused.
use Rattle.std.specs.Prelude.{ℕ, ◌+◌, nat_lt, nat_le, [], ◌∷◌, ◌++◌, length, if◌then◌else◌, Ok, Err}
use Rattle.amm_names.specs.Names.{Name}
use Rattle.amm_names.specs.declared.holder.Holder.{Holder}
use Rattle.amm_names.specs.declared.holder.Asset.{Asset}
use Rattle.amm_names.specs.Order.{same_holder}
use Rattle.amm_model.specs.declared.limits.TheConstants.{AMOUNT_LIMIT, TOKEN_LIMIT, PAIR_LIMIT, QUOTE_LIMIT}
use Rattle.amm_model.specs.declared.fault.Refusal.TheVariants.{Funds, TotalLimit, TokenLimit, PairLimit, QuoteLimit, TimeBack}
use Rattle.amm_model.specs.declared.route.Quote.{Quote}
use Rattle.amm_model.specs.Ledger.{Ledger, balance, total, with_more, with_less, with_transfer, with_quote, is_listed, zero_pair}
use Rattle.amm_model.specs.Outcome.{Outcome, ledger_only}

-- n units go from one holder to another, if he has them
unfoldable pub transfer : Ledger → Asset → Holder → Holder → ℕ → Outcome (Unit {0})
transfer ledger asset from to n =
    if nat_lt (balance ledger asset from) n then Err Funds
    else (if same_holder from to then ledger_only ledger
    else ledger_only (with_transfer ledger asset from to n))

-- n new units for the holder, if the total stays within its limit
unfoldable pub issue : Ledger → Asset → Holder → ℕ → Outcome (Unit {0})
issue ledger asset holder n =
    if nat_lt AMOUNT_LIMIT (total ledger asset + n) then Err TotalLimit
    else ledger_only (with_more ledger asset holder n)

-- n units of the holder end, if he has them
unfoldable pub retire : Ledger → Asset → Holder → ℕ → Outcome (Unit {0})
retire ledger asset holder n =
    if nat_lt (balance ledger asset holder) n then Err Funds
    else ledger_only (with_less ledger asset holder n)

-- the token is listed, unless it is or there are too many
abbrev pub list_token : Ledger → Name → Outcome (Unit {0})
list_token ledger token =
    if is_listed ledger.tokens token then ledger_only ledger
    else (if nat_le TOKEN_LIMIT (length ledger.tokens) then Err TokenLimit
    else ledger_only (record ledger { tokens = ledger.tokens ++ token ∷ [] }))

-- a pair for the pool, unless there are too many
abbrev pub add_pair : Ledger → Name → Outcome (Unit {0})
add_pair ledger pool =
    if nat_le PAIR_LIMIT (length ledger.pairs) then Err PairLimit
    else ledger_only (record ledger { pairs = ledger.pairs ++ (pool, zero_pair) ∷ [] })

-- a quote is kept, and its number told, unless there are too many
abbrev pub add_quote : Ledger → Quote → Outcome ℕ
add_quote ledger quote =
    if nat_le QUOTE_LIMIT (length ledger.quotes) then Err QuoteLimit
    else Ok (record { ledger = with_quote ledger quote; answer = length ledger.quotes + 1 })

-- time does not go back
abbrev pub set_time : Ledger → ℕ → Outcome (Unit {0})
set_time ledger time =
    if nat_lt time ledger.time then Err TimeBack
    else ledger_only (record ledger { time = time })
