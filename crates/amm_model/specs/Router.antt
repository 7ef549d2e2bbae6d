-- What the router does: amounts along a path, swaps along it, and liquidity with minimums.
use Rattle.std.specs.Prelude.{ℕ, ◌-◌, ◌==◌, Bool, ◌&&◌, ◌||◌, nat_lt, nat_le, if◌then◌else◌, List, [], ◌∷◌, length, drop, slice_get, Result, Ok, ok_or}
use Rattle.std.specs.Option.{is_some, unwrap_or}
use Rattle.amm_names.specs.Names.{Name}
use Rattle.amm_names.specs.declared.holder.Holder.{Holder}
use Rattle.amm_names.specs.declared.holder.Holder.TheVariants as holder
use Rattle.amm_names.specs.declared.holder.Asset.TheVariants as asset
use Rattle.amm_names.specs.Pools.{pool_between, is_before}
use Rattle.amm_model.specs.declared.pair.PairRecord.{PairRecord}
use Rattle.amm_model.specs.declared.pair.AddReceipt.{AddReceipt}
use Rattle.amm_model.specs.declared.pair.RemoveReceipt.{RemoveReceipt}
use Rattle.amm_model.specs.declared.pair.BurnReceipt.{BurnReceipt}
use Rattle.amm_model.specs.declared.trade.Side.{Side}
use Rattle.amm_model.specs.declared.trade.Matched.{Matched}
use Rattle.amm_model.specs.declared.route_path.RoutePath.{RoutePath}
use Rattle.amm_model.specs.declared.command.AddWant.{AddWant}
use Rattle.amm_model.specs.declared.command.RemoveWant.{RemoveWant}
use Rattle.amm_model.specs.declared.fault.Refusal.{Refusal}
use Rattle.amm_model.specs.declared.fault.Refusal.TheVariants as code
use Rattle.amm_model.specs.Outcome.{◌>>=◌, refuse_if, Outcome, ledger_only}
use Rattle.amm_model.specs.Ledger.{Ledger, pair_of}
use Rattle.amm_model.specs.Postings.{transfer}
use Rattle.amm_model.specs.declared.limits.TheConstants.{AMOUNT_LIMIT}
use Rattle.amm_model.specs.Swap.{amount_out_of, amount_in_of, quote_of}
use Rattle.amm_model.specs.Operations.{if_there, swap, mint, burn}
use Rattle.amm_model.specs.Factory.{create}

-- ---- amounts along a path

-- a pair, seen from the token that goes in
abbrev pub seen_from : (pool : Name) → (zero_in : Bool) → PairRecord → Side
seen_from pool zero_in pair = record { pool = pool; zero_in = zero_in; rin = if zero_in then pair.r0 else pair.r1; rout = if zero_in then pair.r1 else pair.r0 }

-- the pool of two tokens at a fee, and its reserves in the order of the tokens (library, sortTokens
-- and getReserves)
unfoldable pub side_of : Ledger → (from to : Name) → (fee : ℕ) → Result Side Refusal
side_of ledger from to fee = do
  pool ← ok_or (pool_between from to fee) code.Identical
  pair ← if_there (pair_of ledger.pairs pool)
  Ok (seen_from pool (is_before from to) pair)

-- what reserves pay for an input (library, getAmountOut)
unfoldable pub output_for : (fee x rin rout : ℕ) → Result ℕ Refusal
output_for fee x rin rout = do
  _ ← refuse_if (x == 0) code.InsufficientInputAmount
  _ ← refuse_if (rin == 0 || rout == 0) code.InsufficientLiquidity
  Ok (amount_out_of fee x rin rout)

-- what reserves ask for an output (library, getAmountIn)
unfoldable pub input_for : (fee y rin rout : ℕ) → Result ℕ Refusal
input_for fee y rin rout = do
  _ ← refuse_if (y == 0) code.InsufficientOutputAmount
  _ ← refuse_if (rin == 0 || rout == 0) code.InsufficientLiquidity
  _ ← refuse_if (nat_le rout y) code.InsufficientLiquidity
  Ok (amount_in_of fee y rin rout)

-- an input, and what each pool pays for the amount before, from the first pool on
unfoldable pub amounts_from : Ledger → List Name → List ℕ → ℕ → Result (List ℕ) Refusal
amounts_from ledger (from ∷ to ∷ tokens) (fee ∷ fees) x = do
  side ← side_of ledger from to fee
  y ← output_for fee x side.rin side.rout
  amounts ← amounts_from ledger (to ∷ tokens) fees y
  Ok (x ∷ amounts)
amounts_from ledger tokens fees x = Ok (x ∷ [])

-- the first amount
abbrev pub first_of : List ℕ → ℕ
first_of [] = 0
first_of (x ∷ amounts) = x

-- the last amount
abbrev pub last_of : List ℕ → ℕ
last_of amounts = unwrap_or (slice_get amounts (length amounts - 1)) 0

-- an output, and what each pool asks for the amount behind, from the last pool on
unfoldable pub amounts_to : Ledger → List Name → List ℕ → ℕ → Result (List ℕ) Refusal
amounts_to ledger (from ∷ to ∷ tokens) (fee ∷ fees) y = do
  amounts ← amounts_to ledger (to ∷ tokens) fees y
  side ← side_of ledger from to fee
  x ← input_for fee (first_of amounts) side.rin side.rout
  Ok (x ∷ amounts)
amounts_to ledger tokens fees y = Ok (y ∷ [])

-- the amounts that an input leads to along a path (library, getAmountsOut)
abbrev pub amounts_out : Ledger → RoutePath → ℕ → Result (List ℕ) Refusal
amounts_out ledger path x = amounts_from ledger path.tokens path.fees x

-- the amounts that an output asks for along a path, with a first one within the limit (library,
-- getAmountsIn)
unfoldable pub amounts_in : Ledger → RoutePath → ℕ → Result (List ℕ) Refusal
amounts_in ledger path y = do
  amounts ← amounts_to ledger path.tokens path.fees y
  _ ← refuse_if (nat_lt AMOUNT_LIMIT (first_of amounts)) code.AmountLimit
  Ok amounts

-- ---- swaps along a path

-- who gets what the pool before these tokens pays: the pool of the first two, and at the end of the
-- path the receiver
unfoldable pub next_of : List Name → List ℕ → Holder → Result Holder Refusal
next_of (from ∷ to ∷ tokens) (fee ∷ fees) receiver = do
  pool ← ok_or (pool_between from to fee) code.Identical
  Ok (holder.Pool pool)
next_of tokens fees receiver = Ok receiver

-- each pool pays its amount to the next one, and the last to the receiver (router, _swap)
unfoldable pub swap_along : Ledger → List Name → List ℕ → (amounts : List ℕ) → Holder → Outcome (Unit {0})
swap_along ledger (from ∷ to ∷ tokens) (fee ∷ fees) (y ∷ amounts) receiver = do
  pool ← ok_or (pool_between from to fee) code.Identical
  next ← next_of (to ∷ tokens) fees receiver
  swapped ← swap ledger pool (if is_before from to then 0 else y) (if is_before from to then y else 0) next
  swap_along swapped.ledger (to ∷ tokens) fees amounts receiver
swap_along ledger tokens fees amounts receiver = ledger_only ledger

-- the first amount goes from the actor to the first pool
unfoldable pub pay_first : Ledger → (actor : Name) → List Name → List ℕ → ℕ → Outcome (Unit {0})
pay_first ledger actor (from ∷ to ∷ tokens) (fee ∷ fees) x = do
  pool ← ok_or (pool_between from to fee) code.Identical
  transfer ledger (asset.Token from) (holder.User actor) (holder.Pool pool) x
pay_first ledger actor tokens fees x = ledger_only ledger

-- the first amount is paid, and then each pool pays what comes behind it
unfoldable pub swap_amounts : Ledger → (actor : Name) → RoutePath → (amounts : List ℕ) → Holder → Outcome (List ℕ)
swap_amounts ledger actor path amounts to = do
  paid ← pay_first ledger actor path.tokens path.fees (first_of amounts)
  swapped ← swap_along paid.ledger path.tokens path.fees (drop 1 amounts) to
  Ok (record { ledger = swapped.ledger; answer = amounts })

-- an exact input, for at least a minimum (router, swapExactTokensForTokens)
unfoldable pub exact_in : Ledger → (actor : Name) → RoutePath → (x least : ℕ) → Holder → (deadline : ℕ) → Outcome (List ℕ)
exact_in ledger actor path x least to deadline = do
  _ ← refuse_if (nat_lt deadline ledger.time) code.Expired
  amounts ← amounts_out ledger path x
  _ ← refuse_if (nat_lt (last_of amounts) least) code.InsufficientOutputAmount
  swap_amounts ledger actor path amounts to

-- an exact output, for at most a maximum (router, swapTokensForExactTokens)
unfoldable pub exact_out : Ledger → (actor : Name) → RoutePath → (y most : ℕ) → Holder → (deadline : ℕ) → Outcome (List ℕ)
exact_out ledger actor path y most to deadline = do
  _ ← refuse_if (nat_lt deadline ledger.time) code.Expired
  amounts ← amounts_in ledger path y
  _ ← refuse_if (nat_lt most (first_of amounts)) code.ExcessiveInputAmount
  swap_amounts ledger actor path amounts to

-- ---- liquidity

-- the pool of two tokens at a fee, whose pair is created where it is missing
unfoldable pub with_pool : Ledger → (a b : Name) → (fee : ℕ) → Outcome Name
with_pool ledger a b fee = do
  pool ← ok_or (pool_between a b fee) code.Identical
  if is_some (pair_of ledger.pairs pool) then Ok (record { ledger = ledger; answer = pool }) else create ledger a b fee

-- where the desired amount of b is enough: all that is desired of a, and the b that matches it
abbrev pub match_b : AddWant → (b : ℕ) → Result Matched Refusal
match_b want b = do
  _ ← refuse_if (nat_lt b want.b_min) code.InsufficientBAmount
  Ok (record { a = want.a_desired; b = b })

-- where it is not: all that is desired of b, and what matches it of a
abbrev pub match_a : AddWant → (ra rb : ℕ) → Result Matched Refusal
match_a want ra rb = do
  _ ← refuse_if (want.b_desired == 0) code.InsufficientAmount
  _ ← refuse_if (nat_lt (quote_of want.b_desired rb ra) want.a_min) code.InsufficientAAmount
  Ok (record { a = quote_of want.b_desired rb ra; b = want.b_desired })

-- at most the desired amounts, in the relation of the reserves; all of them where there are no
-- reserves (router, _addLiquidity)
unfoldable pub matched_amounts : AddWant → (ra rb : ℕ) → Result Matched Refusal
matched_amounts want ra rb = if ra == 0 && rb == 0 then Ok (record { a = want.a_desired; b = want.b_desired }) else do
  _ ← refuse_if (want.a_desired == 0) code.InsufficientAmount
  _ ← refuse_if (ra == 0 || rb == 0) code.InsufficientLiquidity
  if nat_le (quote_of want.a_desired ra rb) want.b_desired then match_b want (quote_of want.a_desired ra rb) else match_a want ra rb

-- both amounts from the actor to the pool, for shares (router, addLiquidity)
unfoldable pub add : Ledger → (actor : Name) → AddWant → Holder → (deadline : ℕ) → Outcome AddReceipt
add ledger actor want to deadline = do
  _ ← refuse_if (nat_lt deadline ledger.time) code.Expired
  there ← with_pool ledger want.a want.b want.fee
  side ← side_of there.ledger want.a want.b want.fee
  amounts ← matched_amounts want side.rin side.rout
  first ← transfer there.ledger (asset.Token want.a) (holder.User actor) (holder.Pool side.pool) amounts.a
  second ← transfer first.ledger (asset.Token want.b) (holder.User actor) (holder.Pool side.pool) amounts.b
  minted ← mint second.ledger side.pool to
  Ok (record { ledger = minted.ledger; answer = record { a = amounts.a; b = amounts.b; shares = minted.answer.shares } })

-- what a burn paid, in the order of the two tokens that the side is seen from
abbrev pub paid_in_order : Side → BurnReceipt → RemoveReceipt
paid_in_order side burnt = record { a = if side.zero_in then burnt.amount0 else burnt.amount1; b = if side.zero_in then burnt.amount1 else burnt.amount0 }

-- shares from the actor to the pool, for what they stand for (router, removeLiquidity)
unfoldable pub remove : Ledger → (actor : Name) → RemoveWant → Holder → (deadline : ℕ) → Outcome RemoveReceipt
remove ledger actor want to deadline = do
  _ ← refuse_if (nat_lt deadline ledger.time) code.Expired
  side ← side_of ledger want.a want.b want.fee
  sent ← transfer ledger (asset.Share side.pool) (holder.User actor) (holder.Pool side.pool) want.shares
  burnt ← burn sent.ledger side.pool to
  _ ← refuse_if (nat_lt (paid_in_order side burnt.answer).a want.a_min) code.InsufficientAAmount
  _ ← refuse_if (nat_lt (paid_in_order side burnt.answer).b want.b_min) code.InsufficientBAmount
  Ok (record { ledger = burnt.ledger; answer = paid_in_order side burnt.answer })
