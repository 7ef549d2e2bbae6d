-- What the values of a certificate are read as, part by part.
use Rattle.std.specs.Prelude.{ℕ, ◌^◌, List, [], ◌∷◌, length, Bool, ◌&&◌, ◌==◌, true, false, nat_lt, nat_le, if◌then◌else◌, Option, Some, None, Result, Ok, Err, ok_or, codes, decimal, slice_index_or}
use Rattle.std.specs.Str.{bytes_eq}
use Rattle.std.specs.Str.Parse.{digits_value}
use Rattle.std.specs.List.{position_or_len, list_all}
use Rattle.serde_json.specs.Data.{Data}
use Rattle.amm_names.specs.Names.{Name}
use Rattle.amm_model.specs.declared.fault.Refusal.{Refusal}
use Rattle.amm_model.specs.declared.fault.Refusal.TheVariants.{BadCommand}
use Rattle.amm_model.specs.declared.problem.ProblemPool.{ProblemPool}
use Rattle.amm_model.specs.declared.route.Leg.{Leg}
use Rattle.amm_model.specs.declared.route.Quote.{Quote}
use Rattle.amm_model.specs.Outcome.{◌>>=◌}
use Rattle.amm_model.specs.Forms.{as_text, as_list, as_whole, as_amount, as_token, as_pool, value_if}
use Rattle.amm_model.specs.Json.{each}
use Rattle.amm_model.specs.Routing.{ProblemView, no_pool, token0_of, token1_of}
use Rattle.amm_cert.specs.declared.reader.Head.{Head}

-- a number that is written with no sign, fraction or exponent and is below 2^64
unfoldable pub as_unsigned : Data → Result ℕ Refusal
as_unsigned d = as_whole d

-- the number below 2^128 whose decimal digits these are
unfoldable pub wide_of : List ℕ → Option ℕ
wide_of text = let n = digits_value 10 text in if nat_lt n (2 ^ 128) && bytes_eq text (decimal n) then Some n else None

unfoldable pub as_wide : Data → Result ℕ Refusal
as_wide d = do
  text ← as_text d
  ok_or (wide_of text) BadCommand

-- ---- what stands before the pools

unfoldable pub as_title : Data → Result (List ℕ) Refusal
as_title d = do
  text ← as_text d
  value_if (bytes_eq text (codes "amm-split-certificate")) text

abbrev pub heading_of : (title version s t d : Data) → Result Head Refusal
heading_of title version s t d = do
  text ← as_title title
  v ← as_unsigned version
  source ← as_token s
  target ← as_token t
  amount ← as_unsigned d
  Ok (record { version = v; s = source; t = target; d = amount })

-- ---- the pools

abbrev pub pool_parts : (name r0 r1 b0 b1 : Data) → Result ProblemPool Refusal
pool_parts name r0 r1 b0 b1 = do
  pool ← as_pool name
  reserve0 ← as_amount r0
  reserve1 ← as_amount r1
  balance0 ← as_amount b0
  balance1 ← as_amount b1
  Ok (record { name = pool; r0 = reserve0; r1 = reserve1; b0 = balance0; b1 = balance1 })

abbrev pub pool_row : List Data → Result ProblemPool Refusal
pool_row (name ∷ r0 ∷ r1 ∷ b0 ∷ b1 ∷ []) = pool_parts name r0 r1 b0 b1
pool_row _ = Err BadCommand

unfoldable pub as_problem_pool : Data → Result ProblemPool Refusal
as_problem_pool d = do
  ds ← as_list d
  pool_row ds

unfoldable pub as_problem_pools : Data → Result (List ProblemPool) Refusal
as_problem_pools d = do
  ds ← as_list d
  each as_problem_pool ds

-- ---- the prices

-- the price of this token
abbrev pub price_row : Name → List Data → Result ℕ Refusal
price_row token (name ∷ n ∷ []) = do
  text ← as_text name
  price ← as_unsigned n
  value_if (bytes_eq text token) price
price_row token _ = Err BadCommand

unfoldable pub as_price : Name → Data → Result ℕ Refusal
as_price token d = do
  ds ← as_list d
  price_row token ds

-- a price for each of the tokens
unfoldable pub each_price : List Name → List Data → Result (List ℕ) Refusal
each_price [] [] = Ok []
each_price (token ∷ tokens) (d ∷ ds) = do
  price ← as_price token d
  prices ← each_price tokens ds
  Ok (price ∷ prices)
each_price _ _ = Err BadCommand

abbrev pub is_price : ℕ → Bool
is_price price = nat_le 1 price && nat_lt price (2 ^ 40)

abbrev pub prices_row : List Name → List Data → Result (List ℕ) Refusal
prices_row tokens ds = if length ds == length tokens then each_price tokens ds else Err BadCommand

unfoldable pub as_prices : List Name → Data → Result (List ℕ) Refusal
as_prices tokens d = do
  ds ← as_list d
  prices ← prices_row tokens ds
  value_if (list_all is_price prices) prices

-- ---- the legs

-- which token of a pool this is: its token 0 or its token 1
abbrev pub side_of : ProblemPool → Name → Result Bool Refusal
side_of pool token = if bytes_eq token (token0_of pool) then Ok true else (if bytes_eq token (token1_of pool) then Ok false else Err BadCommand)

-- where the pool of this name stands
abbrev pub pool_place : List ProblemPool → Name → ℕ
pool_place pools name = position_or_len (λ (pool : ProblemPool). bytes_eq name pool.name) pools

abbrev pub place_of : List ProblemPool → Name → Result ℕ Refusal
place_of pools name = value_if (nat_lt (pool_place pools name) (length pools)) (pool_place pools name)

abbrev pub leg_row : List ProblemPool → List Data → Result Leg Refusal
leg_row pools (name ∷ token ∷ m ∷ n ∷ []) = do
  pool ← as_text name
  place ← place_of pools pool
  text ← as_text token
  zero_in ← side_of (slice_index_or pools place no_pool) text
  input ← as_amount m
  output ← as_amount n
  Ok (record { pool = place; zero_in = zero_in; input = input; output = output })
leg_row pools _ = Err BadCommand

unfoldable pub as_leg : List ProblemPool → Data → Result Leg Refusal
as_leg pools d = do
  ds ← as_list d
  leg_row pools ds

abbrev pub legs_row : List ProblemPool → List Data → Result (List Leg) Refusal
legs_row pools ds = if nat_le (length ds) 256 then each (as_leg pools) ds else Err BadCommand

unfoldable pub as_legs : List ProblemPool → Data → Result (List Leg) Refusal
as_legs pools d = do
  ds ← as_list d
  legs_row pools ds

-- ---- a quote over a problem

abbrev pub quote_over : ProblemView → (prices legs delivered bound : Data) → Result Quote Refusal
quote_over problem prices legs delivered bound = do
  ps ← as_prices problem.tokens prices
  ls ← as_legs problem.pools legs
  amount ← as_unsigned delivered
  most ← as_wide bound
  Ok (record { problem = problem; prices = ps; route = record { legs = ls }; delivered = amount; bound = most })
