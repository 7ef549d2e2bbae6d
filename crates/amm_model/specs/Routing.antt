-- The routing problem: how much of which tokens to bring to another, over which pools; and the
-- routes that answer it. (EC 2022, section 2, in whole numbers)
use Rattle.std.specs.Prelude.{IsTrue, ℕ, ◌≡◌, ◌≢◌, ◌↔◌, ◌+◌, ◌-◌, ◌^◌, ◌<◌, ◌≤◌, List, [], ◌∷◌, ◌++◌, length, map, slice_index_or, sum_by, Contains, AllPairs, All, if◌then◌else◌, refl}
use Rattle.std.specs.Coded.{Coded, code_by, coded×, coded_ℕ, coded_list}
use Rattle.std.specs.Str.{bytes_eq}
use Rattle.std.specs.List.{position_or_len}
use Rattle.amm_names.specs.Names.{Name, is_token_name}
use Rattle.amm_names.specs.Pools.{is_before, is_pool_name, pool_token0, pool_token1, pool_fee}
use Rattle.amm_model.specs.Swap.{Admits}
use Rattle.amm_model.specs.declared.problem.Part.{Part}
use Rattle.amm_model.specs.declared.problem.ProblemPool.{ProblemPool}
use Rattle.amm_model.specs.declared.problem.TokenPlaces.{TokenPlaces}
use Rattle.amm_model.specs.contracts.problem.Part as part
use Rattle.amm_model.specs.contracts.problem.ProblemPool as pool
use Rattle.amm_model.specs.declared.limits.TheConstants.{PART_LIMIT, PAIR_LIMIT}

-- Bring the parts, each so much of a token, to t, over the pools. The tokens are t, those of the
-- parts and those of the pools.
pub record OpenView : Type 0 where
  pub parts : List Part
  pub t : Name
  pub tokens : List Name
  pub pools : List ProblemPool

abbrev pub open_code : Coded OpenView
open_code =
    code_by (List Part × (List ℕ × (List (List ℕ) × List ProblemPool)))
    (coded× (coded_list part.the_row.coded) (coded× (coded_list coded_ℕ) (coded× (coded_list (coded_list coded_ℕ)) (coded_list pool.the_row.coded))))
    (λ p. (p.parts, (p.t, (p.tokens, p.pools)))) (λ p. record { parts = p.0; t = p.1.0; tokens = p.1.1.0; pools = p.1.1.1 }) (λ _. refl)

-- Bring d of s to t, over the pools.
pub record ProblemView : Type 0 where
  pub s : Name
  pub t : Name
  pub d : ℕ
  pub tokens : List Name
  pub pools : List ProblemPool

abbrev pub problem_code : Coded ProblemView
problem_code =
    code_by (List ℕ × (List ℕ × (ℕ × (List (List ℕ) × List ProblemPool))))
    (coded× (coded_list coded_ℕ) (coded× (coded_list coded_ℕ) (coded× coded_ℕ (coded× (coded_list (coded_list coded_ℕ)) (coded_list pool.the_row.coded)))))
    (λ p. (p.s, (p.t, (p.d, (p.tokens, p.pools))))) (λ p. record { s = p.0; t = p.1.0; d = p.1.1.0; tokens = p.1.1.1.0; pools = p.1.1.1.1 }) (λ _. refl)

-- ---- pools

-- The two tokens of a pool, the first being the lower one, and its fee in thousandths.
abbrev pub token0_of : ProblemPool → Name
token0_of pool = pool_token0 pool.name

abbrev pub token1_of : ProblemPool → Name
token1_of pool = pool_token1 pool.name

abbrev pub fee_of : ProblemPool → ℕ
fee_of pool = pool_fee pool.name

-- The tokens of pools, pool by pool.
abbrev pub tokens_of_pools : List ProblemPool → List Name
tokens_of_pools [] = []
tokens_of_pools (pool ∷ pools) = token0_of pool ∷ token1_of pool ∷ tokens_of_pools pools

-- Earlier in the order of bytes.
abbrev pub IsBefore : Name → Name → Type 0
IsBefore a b = IsTrue (is_before a b)

-- Both reserves are 1 to 2^48-1.
abbrev pub HasReserves : ProblemPool → Type 0
HasReserves pool = (1 ≤ pool.r0) × (pool.r0 < 2 ^ 48) × (1 ≤ pool.r1) × (pool.r1 < 2 ^ 48)

-- Each balance is at least its reserve and at most 2^52-1.
abbrev pub HasBalances : ProblemPool → Type 0
HasBalances pool = (pool.r0 ≤ pool.b0) × (pool.b0 < 2 ^ 52) × (pool.r1 ≤ pool.b1) × (pool.b1 < 2 ^ 52)

-- ---- problems

-- What a problem can be made of: at most eight parts of 1 to 2^52-1 each, in the order of their
-- tokens, none of which is t, and at most 256 pools in the order of their names.
pub record AreOpenParts (parts : List Part) (t : Name) (pools : List ProblemPool) : Type 0 where
  pub few_parts : length parts ≤ PART_LIMIT
  pub rising : AllPairs (λ (a b : Part). IsBefore a.token b.token) parts
  pub apart : All (λ (part : Part). part.token ≢ t) parts
  pub amounts : All (λ (part : Part). (1 ≤ part.amount) × (part.amount < 2 ^ 52)) parts
  pub few : length pools ≤ PAIR_LIMIT
  pub names : AllPairs (λ (a b : ProblemPool). IsBefore a.name b.name) pools
  pub reserves : All HasReserves pools
  pub balances : All HasBalances pools

-- The tokens that a problem speaks of.
abbrev pub tokens_named : List Part → Name → List ProblemPool → List Name
tokens_named parts t pools = t ∷ (map (λ (part : Part). part.token) parts ++ tokens_of_pools pools)

-- All names are spelled as names are.
pub record AreSpelled (parts : List Part) (t : Name) (pools : List ProblemPool) : Type 0 where
  pub sources : All (λ (part : Part). IsTrue (is_token_name part.token)) parts
  pub target : IsTrue (is_token_name t)
  pub each : All (λ (pool : ProblemPool). IsTrue (is_pool_name pool.name)) pools

-- A problem: its tokens are those that it speaks of, each once, in the order of their names.
pub record IsOpenProblem (problem : OpenView) : Type 0 where
  pub parts : AreOpenParts problem.parts problem.t problem.pools
  pub spelled : AreSpelled problem.parts problem.t problem.pools
  pub ascending : AllPairs IsBefore problem.tokens
  pub tokens : (token : Name) → Contains problem.tokens token ↔ Contains (tokens_named problem.parts problem.t problem.pools) token

-- The problem of these parts.
pub record IsOpenProblemOf (parts : List Part) (t : Name) (pools : List ProblemPool) (problem : OpenView) : Type 0 where
  pub sources : problem.parts ≡ parts
  pub target : problem.t ≡ t
  pub over : problem.pools ≡ pools
  pub sound : IsOpenProblem problem

-- ---- problems with a single part

-- The one part of d of s.
abbrev pub one_part : Name → ℕ → List Part
one_part s d = record { token = s; amount = d } ∷ []

-- What there is to bring is the one part.
abbrev pub open_view : ProblemView → OpenView
open_view problem = record { parts = one_part problem.s problem.d; t = problem.t; tokens = problem.tokens; pools = problem.pools }

abbrev pub AreParts : (s t : Name) → (d : ℕ) → List ProblemPool → Type 0
AreParts s t d pools = AreOpenParts (one_part s d) t pools

abbrev pub IsProblem : ProblemView → Type 0
IsProblem problem = IsOpenProblem (open_view problem)

abbrev pub IsProblemOf : (s t : Name) → (d : ℕ) → List ProblemPool → ProblemView → Type 0
IsProblemOf s t d pools problem = IsOpenProblemOf (one_part s d) t pools (open_view problem)

-- ---- prices and places

-- Each price is 1 to 2^40-1.
abbrev pub ArePrices : List ℕ → Type 0
ArePrices prices = All (λ (price : ℕ). (1 ≤ price) × (price < 2 ^ 40)) prices

-- Where a token stands among the tokens; their number, where it is none of them.
abbrev pub token_place : List Name → Name → ℕ
token_place tokens name = position_or_len (bytes_eq name) tokens

-- Where the token of a part stands.
abbrev pub part_place : List Name → Part → ℕ
part_place tokens part = token_place tokens part.token

-- Where the tokens of a pool stand.
abbrev pub places_of : List Name → ProblemPool → TokenPlaces
places_of tokens pool = record { zero = token_place tokens (token0_of pool); one = token_place tokens (token1_of pool) }

-- ---- routes

-- What goes into a pool, named by its place in the problem, and what comes out, of both its tokens.
pub record PoolTrade : Type 0 where
  pub place : ℕ
  pub in0 : ℕ
  pub in1 : ℕ
  pub out0 : ℕ
  pub out1 : ℕ

-- Stands where a list of pools has none.
abbrev pub no_pool : ProblemPool
no_pool = record { name = []; r0 = 0; r1 = 0; b0 = 0; b1 = 0 }

abbrev pub pool_of : List ProblemPool → PoolTrade → ProblemPool
pool_of pools trade = slice_index_or pools trade.place no_pool

-- A trade that its pool's reserves and the rule of a swap allow.
pub record IsTrade (pools : List ProblemPool) (trade : PoolTrade) : Type 0 where
  pub there : trade.place < length pools
  pub within0 : trade.out0 < (pool_of pools trade).r0
  pub within1 : trade.out1 < (pool_of pools trade).r1
  pub admitted : Admits (fee_of (pool_of pools trade)) (pool_of pools trade).r0 (pool_of pools trade).r1 ((pool_of pools trade).r0 - trade.out0 + trade.in0) ((pool_of pools trade).r1 - trade.out1 + trade.in1) trade.in0 trade.in1

-- What two amounts, of a pool's token 0 and its token 1, come to in one token.
abbrev pub amount_in_token : Name → ProblemPool → ℕ → ℕ → ℕ
amount_in_token token pool a0 a1 = (if bytes_eq token (token0_of pool) then a0 else 0) + (if bytes_eq token (token1_of pool) then a1 else 0)

-- What the trades put into their pools of a token.
abbrev pub amount_put_in : List ProblemPool → List PoolTrade → Name → ℕ
amount_put_in pools route token = sum_by (λ (trade : PoolTrade). amount_in_token token (pool_of pools trade) trade.in0 trade.in1) route

-- What the trades take out of their pools of a token.
abbrev pub amount_taken_out : List ProblemPool → List PoolTrade → Name → ℕ
amount_taken_out pools route token = sum_by (λ (trade : PoolTrade). amount_in_token token (pool_of pools trade) trade.out0 trade.out1) route

-- How much of a token the parts give: the amount of its part, or nothing.
abbrev pub given_by_parts : List Part → Name → ℕ
given_by_parts [] token = 0
given_by_parts (part ∷ parts) token = if bytes_eq token part.token then part.amount else given_by_parts parts token

abbrev pub amount_given : OpenView → Name → ℕ
amount_given problem = given_by_parts problem.parts

-- Each pool at most once, each trade by its rule; of every token no more is put in than was taken
-- out and is given.
pub record IsRoute (problem : OpenView) (route : List PoolTrade) : Type 0 where
  pub once : AllPairs (λ (a b : PoolTrade). a.place ≢ b.place) route
  pub trades : All (IsTrade problem.pools) route
  pub covers : (token : Name) → amount_put_in problem.pools route token ≤ amount_taken_out problem.pools route token + amount_given problem token

-- What a route delivers: its net of t.
abbrev pub delivered_by : OpenView → List PoolTrade → ℕ
delivered_by problem route = amount_taken_out problem.pools route problem.t - amount_put_in problem.pools route problem.t
