-- The router's swaps as the code plans them: the amounts along a path are kept as trades, each with
-- the pool that makes it. These words serve private functions alone; that they give the amounts,
-- the refusals and the ledgers of the router's rule is proved.
use Rattle.std.specs.Prelude.{ℕ, nat_lt, if◌then◌else◌, List, [], ◌∷◌, map, Result, Ok}
use Rattle.amm_names.specs.declared.holder.Holder.{Holder}
use Rattle.amm_names.specs.declared.holder.Holder.TheVariants as holder
use Rattle.amm_names.specs.declared.holder.Asset.TheVariants as asset
use Rattle.amm_model.specs.declared.trade.Trade.{Trade}
use Rattle.amm_model.specs.declared.route_path.RoutePath.{RoutePath}
use Rattle.amm_model.specs.declared.fault.Refusal.{Refusal}
use Rattle.amm_model.specs.declared.fault.Refusal.TheVariants as code
use Rattle.amm_model.specs.declared.limits.TheConstants.{AMOUNT_LIMIT}
use Rattle.amm_model.specs.Outcome.{◌>>=◌, refuse_if, Outcome, ledger_only}
use Rattle.amm_model.specs.Ledger.{Ledger}
use Rattle.amm_model.specs.Postings.{transfer}
use Rattle.amm_model.specs.Operations.{swap}
use Rattle.amm_model.specs.Router.{side_of, output_for, input_for, last_of}

-- what goes into the first pool, and the trades that follow from it, in order
pub record Plan : Type 0 where
  pub input : ℕ
  pub trades : List Trade

-- the first amount, and what each pool pays
abbrev pub amounts_of : Plan → List ℕ
amounts_of plan = plan.input ∷ map (λ trade. trade.output) plan.trades

-- ---- plans

-- the trade that an input makes with the pool of two tokens
unfoldable pub trade_out : Ledger → (from to : List ℕ) → (fee : ℕ) → ℕ → Result Trade Refusal
trade_out ledger from to fee x = do
  side ← side_of ledger from to fee
  y ← output_for fee x side.rin side.rout
  Ok (record { pool = side.pool; zero_in = side.zero_in; output = y })

-- the trades that an input leads to, pool by pool from the first
unfoldable pub trades_out : Ledger → (from : List ℕ) → List (List ℕ) → List ℕ → ℕ → Result (List Trade) Refusal
trades_out ledger from (to ∷ tokens) (fee ∷ fees) x = do
  trade ← trade_out ledger from to fee x
  later ← trades_out ledger to tokens fees trade.output
  Ok (trade ∷ later)
trades_out ledger from _ _ x = Ok []

-- what the pool of two tokens asks for an output, and the trade
unfoldable pub trade_in : Ledger → (from to : List ℕ) → (fee : ℕ) → ℕ → Result (ℕ × Trade) Refusal
trade_in ledger from to fee y = do
  side ← side_of ledger from to fee
  x ← input_for fee y side.rin side.rout
  Ok (x, record { pool = side.pool; zero_in = side.zero_in; output = y })

-- the plan that an output asks for, pool by pool from the last
unfoldable pub plan_in : Ledger → (from : List ℕ) → List (List ℕ) → List ℕ → ℕ → Result Plan Refusal
plan_in ledger from (to ∷ tokens) (fee ∷ fees) y = do
  later ← plan_in ledger to tokens fees y
  asked ← trade_in ledger from to fee later.input
  Ok (record { input = asked.0; trades = asked.1 ∷ later.trades })
plan_in ledger from _ _ y = Ok (record { input = y; trades = [] })

-- the same, where the path's first token is still among its tokens
abbrev pub out_from_first : Ledger → List (List ℕ) → List ℕ → ℕ → Result (List Trade) Refusal
out_from_first ledger [] fees x = Ok []
out_from_first ledger (from ∷ tokens) fees x = trades_out ledger from tokens fees x

-- the same for an output
abbrev pub in_from_first : Ledger → List (List ℕ) → List ℕ → ℕ → Result Plan Refusal
in_from_first ledger [] fees y = Ok (record { input = y; trades = [] })
in_from_first ledger (from ∷ tokens) fees y = plan_in ledger from tokens fees y

-- the plan of an input
unfoldable pub out_along : Ledger → RoutePath → ℕ → Result Plan Refusal
out_along ledger path x = do
  trades ← out_from_first ledger path.tokens path.fees x
  Ok (record { input = x; trades = trades })

-- the plan of an output, with a first amount within the limit
unfoldable pub in_along : Ledger → RoutePath → ℕ → Result Plan Refusal
in_along ledger path y = do
  plan ← in_from_first ledger path.tokens path.fees y
  _ ← refuse_if (nat_lt AMOUNT_LIMIT plan.input) code.AmountLimit
  Ok plan

-- the amounts of an input's plan, and of an output's
unfoldable pub amounts_out_planned : Ledger → RoutePath → ℕ → Result (List ℕ) Refusal
amounts_out_planned ledger path x = do
  plan ← out_along ledger path x
  Ok (amounts_of plan)

unfoldable pub amounts_in_planned : Ledger → RoutePath → ℕ → Result (List ℕ) Refusal
amounts_in_planned ledger path y = do
  plan ← in_along ledger path y
  Ok (amounts_of plan)

-- ---- swaps by a plan

-- who gets what a pool pays: the pool of the next trade, and at the end the receiver
abbrev pub receiver_of : List Trade → Holder → Holder
receiver_of [] to = to
receiver_of (next ∷ later) to = holder.Pool next.pool

-- one swap for each trade
unfoldable pub swap_trades : Ledger → List Trade → Holder → Outcome (Unit {0})
swap_trades ledger [] to = ledger_only ledger
swap_trades ledger (trade ∷ later) to = do
  swapped ← swap ledger trade.pool (if trade.zero_in then 0 else trade.output) (if trade.zero_in then trade.output else 0) (receiver_of later to)
  swap_trades swapped.ledger later to

-- the input from the actor to the first pool
unfoldable pub pay_plan : Ledger → (actor : List ℕ) → List (List ℕ) → ℕ → List Trade → Outcome (Unit {0})
pay_plan ledger actor (from ∷ tokens) input (first ∷ later) = transfer ledger (asset.Token from) (holder.User actor) (holder.Pool first.pool) input
pay_plan ledger actor tokens input trades = ledger_only ledger

-- the input is paid, and then each trade is made
unfoldable pub trade_along : Ledger → (actor : List ℕ) → RoutePath → Plan → Holder → Outcome (List ℕ)
trade_along ledger actor path plan to = do
  paid ← pay_plan ledger actor path.tokens plan.input plan.trades
  swapped ← swap_trades paid.ledger plan.trades to
  Ok (record { ledger = swapped.ledger; answer = amounts_of plan })

-- an exact input by its plan, and an exact output
unfoldable pub exact_in_planned : Ledger → (actor : List ℕ) → RoutePath → (x least : ℕ) → Holder → (deadline : ℕ) → Outcome (List ℕ)
exact_in_planned ledger actor path x least to deadline = do
  _ ← refuse_if (nat_lt deadline ledger.time) code.Expired
  plan ← out_along ledger path x
  _ ← refuse_if (nat_lt (last_of (amounts_of plan)) least) code.InsufficientOutputAmount
  trade_along ledger actor path plan to

unfoldable pub exact_out_planned : Ledger → (actor : List ℕ) → RoutePath → (y most : ℕ) → Holder → (deadline : ℕ) → Outcome (List ℕ)
exact_out_planned ledger actor path y most to deadline = do
  _ ← refuse_if (nat_lt deadline ledger.time) code.Expired
  plan ← in_along ledger path y
  _ ← refuse_if (nat_lt most plan.input) code.ExcessiveInputAmount
  trade_along ledger actor path plan to
