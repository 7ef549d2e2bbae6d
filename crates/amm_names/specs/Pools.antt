-- How pools are spelled: `A/B` for the fee of 3 thousandths, and `A/B:1`, `A/B:10` for the fees 1
-- and 10.
use Rattle.std.specs.Prelude.{IsTrue, ℕ, Bool, ◌&&◌, ◌||◌, ◌==◌, if◌then◌else◌, Option, Some, None, List, [], ◌∷◌, ◌++◌, codes}
use Rattle.std.specs.List.{before_first, after_first}
use Rattle.std.specs.Str.{bytes_eq}
use Rattle.std.specs.Ordering.{is_lt, nat_cmp}
use Rattle.std.specs.Cmp.Lexicographic.{slice_cmp}
use Rattle.amm_names.specs.Names.{Name, is_token_name}

-- in the order of their bytes
abbrev pub is_before : Name → Name → Bool
is_before a b = is_lt (slice_cmp nat_cmp a b)

-- the fees that a pool may have, in thousandths
abbrev pub is_fee : ℕ → Bool
is_fee fee = fee == 1 || (fee == 3 || fee == 10)

-- what is written behind the two tokens: a colon and the fee, but nothing for the fee of 3
abbrev pub fee_spelling : ℕ → List ℕ
fee_spelling fee = if fee == 1 then codes ":1" else (if fee == 10 then codes ":10" else [])

-- the tokens with a slash between them, and the fee
abbrev pub pool_spelling : Name → Name → ℕ → Name
pool_spelling token0 token1 fee = token0 ++ 47 ∷ (token1 ++ fee_spelling fee)

-- the pool of two tokens in either order; one token has none
unfoldable pub pool_between : Name → Name → ℕ → Option Name
pool_between a b fee = if bytes_eq a b then None else Some (if is_before a b then pool_spelling a b fee else pool_spelling b a fee)

-- the parts of a spelling: up to the slash; from there up to the colon; and what the digits behind
-- the colon say, where there are any
unfoldable pub pool_token0 : List ℕ → Name
pool_token0 bytes = before_first (λ b. b == 47) bytes

unfoldable pub pool_token1 : List ℕ → Name
pool_token1 bytes = before_first (λ b. b == 58) (after_first (λ b. b == 47) bytes)

abbrev pub fee_of_digits : List ℕ → ℕ
fee_of_digits digits = if bytes_eq digits (codes "1") then 1 else (if bytes_eq digits (codes "10") then 10 else 3)

unfoldable pub pool_fee : List ℕ → ℕ
pool_fee bytes = fee_of_digits (after_first (λ b. b == 58) (after_first (λ b. b == 47) bytes))

-- the parts are two tokens in order, and spell the same bytes again
unfoldable pub is_pool_name : List ℕ → Bool
is_pool_name bytes =
    is_token_name (pool_token0 bytes)
    && (is_token_name (pool_token1 bytes)
    && (is_before (pool_token0 bytes) (pool_token1 bytes)
    && bytes_eq bytes (pool_spelling (pool_token0 bytes) (pool_token1 bytes) (pool_fee bytes))))
