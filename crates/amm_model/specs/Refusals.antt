-- The numbers and the words by which refusals are printed.
use Rattle.std.specs.Prelude.{ℕ, List, codes}
use Rattle.amm_model.specs.declared.fault.Refusal.{Refusal}
use Rattle.amm_model.specs.declared.fault.Refusal.TheVariants as refusals

abbrev pub refusal_number : Refusal → ℕ
refusal_number refusals.BadJson = 1
refusal_number refusals.BadCommand = 2
refusal_number refusals.LongLine = 3
refusal_number refusals.TokenLimit = 4
refusal_number refusals.TotalLimit = 5
refusal_number refusals.UnknownToken = 6
refusal_number refusals.Funds = 7
refusal_number refusals.TimeBack = 8
refusal_number refusals.Identical = 9
refusal_number refusals.PairExists = 10
refusal_number refusals.PairLimit = 11
refusal_number refusals.Forbidden = 12
refusal_number refusals.NoPair = 13
refusal_number refusals.Locked = 14
refusal_number refusals.InsufficientOutputAmount = 15
refusal_number refusals.InsufficientLiquidity = 16
refusal_number refusals.InvalidTo = 17
refusal_number refusals.InsufficientInputAmount = 18
refusal_number refusals.K = 19
refusal_number refusals.Overflow = 20
refusal_number refusals.InsufficientLiquidityMinted = 21
refusal_number refusals.InsufficientLiquidityBurned = 22
refusal_number refusals.Expired = 23
refusal_number refusals.InsufficientAAmount = 24
refusal_number refusals.InsufficientBAmount = 25
refusal_number refusals.InsufficientAmount = 26
refusal_number refusals.ExcessiveInputAmount = 27
refusal_number refusals.AmountLimit = 28
refusal_number refusals.ZeroAmount = 29
refusal_number refusals.NoRoute = 30
refusal_number refusals.QuoteLimit = 31
refusal_number refusals.NoQuote = 32
refusal_number refusals.Stale = 33
refusal_number refusals.ObservationLimit = 34
refusal_number refusals.NoObservation = 35
refusal_number refusals.BadWindow = 36

abbrev pub refusal_word : Refusal → List ℕ
refusal_word refusals.BadJson = codes "BAD_JSON"
refusal_word refusals.BadCommand = codes "BAD_COMMAND"
refusal_word refusals.LongLine = codes "LONG_LINE"
refusal_word refusals.TokenLimit = codes "TOKEN_LIMIT"
refusal_word refusals.TotalLimit = codes "TOTAL_LIMIT"
refusal_word refusals.UnknownToken = codes "UNKNOWN_TOKEN"
refusal_word refusals.Funds = codes "FUNDS"
refusal_word refusals.TimeBack = codes "TIME_BACK"
refusal_word refusals.Identical = codes "IDENTICAL"
refusal_word refusals.PairExists = codes "PAIR_EXISTS"
refusal_word refusals.PairLimit = codes "PAIR_LIMIT"
refusal_word refusals.Forbidden = codes "FORBIDDEN"
refusal_word refusals.NoPair = codes "NO_PAIR"
refusal_word refusals.Locked = codes "LOCKED"
refusal_word refusals.InsufficientOutputAmount = codes "INSUFFICIENT_OUTPUT_AMOUNT"
refusal_word refusals.InsufficientLiquidity = codes "INSUFFICIENT_LIQUIDITY"
refusal_word refusals.InvalidTo = codes "INVALID_TO"
refusal_word refusals.InsufficientInputAmount = codes "INSUFFICIENT_INPUT_AMOUNT"
refusal_word refusals.K = codes "K"
refusal_word refusals.Overflow = codes "OVERFLOW"
refusal_word refusals.InsufficientLiquidityMinted = codes "INSUFFICIENT_LIQUIDITY_MINTED"
refusal_word refusals.InsufficientLiquidityBurned = codes "INSUFFICIENT_LIQUIDITY_BURNED"
refusal_word refusals.Expired = codes "EXPIRED"
refusal_word refusals.InsufficientAAmount = codes "INSUFFICIENT_A_AMOUNT"
refusal_word refusals.InsufficientBAmount = codes "INSUFFICIENT_B_AMOUNT"
refusal_word refusals.InsufficientAmount = codes "INSUFFICIENT_AMOUNT"
refusal_word refusals.ExcessiveInputAmount = codes "EXCESSIVE_INPUT_AMOUNT"
refusal_word refusals.AmountLimit = codes "AMOUNT_LIMIT"
refusal_word refusals.ZeroAmount = codes "ZERO_AMOUNT"
refusal_word refusals.NoRoute = codes "NO_ROUTE"
refusal_word refusals.QuoteLimit = codes "QUOTE_LIMIT"
refusal_word refusals.NoQuote = codes "NO_QUOTE"
refusal_word refusals.Stale = codes "STALE"
refusal_word refusals.ObservationLimit = codes "OBSERVATION_LIMIT"
refusal_word refusals.NoObservation = codes "NO_OBSERVATION"
refusal_word refusals.BadWindow = codes "BAD_WINDOW"
