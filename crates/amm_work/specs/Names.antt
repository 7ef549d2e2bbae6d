-- The users, tokens and pools, each by its number.
use Rattle.std.specs.Prelude.{ℕ, List, ◌==◌, ◌&&◌, ◌+◌, ◌%◌, min, max, not, codes, if◌then◌else◌}

abbrev pub user_name : ℕ → List ℕ
user_name u = if u == 0 then codes "u0" else if u == 1 then codes "u1" else if u == 2 then codes "u2" else codes "u3"

abbrev pub token_name : ℕ → List ℕ
token_name t = if t == 0 then codes "AA" else if t == 1 then codes "BB" else if t == 2 then codes "CC" else codes "DD"

-- the pool of two tokens, of which the first has the lesser number
abbrev pub pool_in_order : ℕ → ℕ → List ℕ
pool_in_order low high =
    if low == 0 then (if high == 1 then codes "AA/BB" else if high == 2 then codes "AA/CC" else codes "AA/DD")
    else if low == 1 then (if high == 2 then codes "BB/CC" else codes "BB/DD")
    else codes "CC/DD"

-- the pool of two tokens, and its token 0
abbrev pub pool_name : ℕ → ℕ → List ℕ
pool_name a b = pool_in_order (min a b) (max a b)

abbrev pub token0_name : ℕ → ℕ → List ℕ
token0_name a b = token_name (min a b)

-- the user behind one
abbrev pub next_user : ℕ → ℕ
next_user u = (u + 1) % 4

-- the first token that is neither of two
abbrev pub third_token : ℕ → ℕ → ℕ
third_token a b =
    if not (a == 0) && not (b == 0) then 0
    else if not (a == 1) && not (b == 1) then 1
    else if not (a == 2) && not (b == 2) then 2
    else 3
