-- The words of the kinds of rows.
use Rattle.std.specs.Prelude.{ℕ, List, codes}
use Rattle.amm_command.specs.declared.plain.kind.Kind.{Kind}
use Rattle.amm_command.specs.declared.plain.kind.Kind.TheVariants as kinds
use Rattle.amm_command.specs.declared.plain.kind.MarketKind.{MarketKind}
use Rattle.amm_command.specs.declared.plain.kind.MarketKind.TheVariants as markets
use Rattle.amm_command.specs.declared.plain.kind.StepKind.{StepKind}
use Rattle.amm_command.specs.declared.plain.kind.StepKind.TheVariants as steps

-- a kind that can be a step too
abbrev pub step_word : StepKind → List ℕ
step_word steps.Transfer = codes "transfer"
step_word steps.Create = codes "create"
step_word steps.Mint = codes "mint"
step_word steps.Burn = codes "burn"
step_word steps.Swap = codes "swap"
step_word steps.Skim = codes "skim"
step_word steps.Sync = codes "sync"
step_word steps.Flash = codes "flash"
step_word steps.Add = codes "add"
step_word steps.Remove = codes "remove"
step_word steps.SwapIn = codes "swapin"
step_word steps.SwapOut = codes "swapout"
step_word steps.Settle = codes "settle"

-- a kind of routes or of the price oracle
abbrev pub market_word : MarketKind → List ℕ
market_word markets.Split = codes "split"
market_word markets.Certificate = codes "certificate"
market_word markets.Basket = codes "basket"
market_word markets.Cycle = codes "cycle"
market_word markets.Observe = codes "observe"
market_word markets.Average = codes "average"
market_word markets.Consult = codes "consult"
market_word markets.Window = codes "window"

-- any kind
abbrev pub kind_word : Kind → List ℕ
kind_word kinds.Deposit = codes "deposit"
kind_word kinds.Withdraw = codes "withdraw"
kind_word kinds.Time = codes "time"
kind_word kinds.FeeTo = codes "feeto"
kind_word kinds.Setter = codes "setter"
kind_word kinds.QuoteOut = codes "quoteout"
kind_word kinds.QuoteIn = codes "quotein"
kind_word kinds.Pool = codes "pool"
kind_word kinds.Balance = codes "balance"
kind_word kinds.Total = codes "total"
kind_word (kinds.Market kind) = market_word kind
kind_word (kinds.Step kind) = step_word kind
