-- The words of kinds.
use Rattle.std.proofs.Common.{◌≡◌, ℕ, List, refl}
use Rattle.json.specs.Print.{escape, escape_byte}
use Rattle.serde_json.specs.Data.{Data}
use Rattle.amm_model.specs.Reading.{act_row, market_row, row_of}
use Rattle.amm_command.specs.declared.plain.kind.Kind.{Kind}
use Rattle.amm_command.specs.declared.plain.kind.Kind.TheVariants as kinds
use Rattle.amm_command.specs.declared.plain.kind.MarketKind.{MarketKind}
use Rattle.amm_command.specs.declared.plain.kind.MarketKind.TheVariants as markets
use Rattle.amm_command.specs.declared.plain.kind.StepKind.{StepKind}
use Rattle.amm_command.specs.declared.plain.kind.StepKind.TheVariants as steps
use Rattle.amm_command.specs.Kinds.{kind_word, market_word, step_word}

-- a kind that can be a step is none of those that only a line can be
pub row_of_step : (kind : StepKind) (ds : List Data) → row_of (step_word kind) ds ≡ act_row (step_word kind) ds
unfolding row_of market_row
row_of_step steps.Transfer ds = refl
row_of_step steps.Create ds = refl
row_of_step steps.Mint ds = refl
row_of_step steps.Burn ds = refl
row_of_step steps.Swap ds = refl
row_of_step steps.Skim ds = refl
row_of_step steps.Sync ds = refl
row_of_step steps.Flash ds = refl
row_of_step steps.Add ds = refl
row_of_step steps.Remove ds = refl
row_of_step steps.SwapIn ds = refl
row_of_step steps.SwapOut ds = refl
row_of_step steps.Settle ds = refl

-- nor is one of routes or of the price oracle among the others that only a line can be
pub row_of_market : (kind : MarketKind) (ds : List Data) → row_of (market_word kind) ds ≡ market_row (market_word kind) ds
unfolding row_of
row_of_market markets.Split ds = refl
row_of_market markets.Certificate ds = refl
row_of_market markets.Basket ds = refl
row_of_market markets.Cycle ds = refl
row_of_market markets.Observe ds = refl
row_of_market markets.Average ds = refl
row_of_market markets.Consult ds = refl
row_of_market markets.Window ds = refl

-- words need no escape
pub escape-step : (kind : StepKind) → escape (step_word kind) ≡ step_word kind
unfolding escape_byte
escape-step steps.Transfer = refl
escape-step steps.Create = refl
escape-step steps.Mint = refl
escape-step steps.Burn = refl
escape-step steps.Swap = refl
escape-step steps.Skim = refl
escape-step steps.Sync = refl
escape-step steps.Flash = refl
escape-step steps.Add = refl
escape-step steps.Remove = refl
escape-step steps.SwapIn = refl
escape-step steps.SwapOut = refl
escape-step steps.Settle = refl

escape-market : (kind : MarketKind) → escape (market_word kind) ≡ market_word kind
unfolding escape_byte
escape-market markets.Split = refl
escape-market markets.Certificate = refl
escape-market markets.Basket = refl
escape-market markets.Cycle = refl
escape-market markets.Observe = refl
escape-market markets.Average = refl
escape-market markets.Consult = refl
escape-market markets.Window = refl

pub escape-kind : (kind : Kind) → escape (kind_word kind) ≡ kind_word kind
unfolding escape_byte
escape-kind kinds.Deposit = refl
escape-kind kinds.Withdraw = refl
escape-kind kinds.Time = refl
escape-kind kinds.FeeTo = refl
escape-kind kinds.Setter = refl
escape-kind kinds.QuoteOut = refl
escape-kind kinds.QuoteIn = refl
escape-kind kinds.Pool = refl
escape-kind kinds.Balance = refl
escape-kind kinds.Total = refl
escape-kind (kinds.Market kind) = escape-market kind
escape-kind (kinds.Step kind) = escape-step kind
