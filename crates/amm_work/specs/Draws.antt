-- What is drawn for a line, from a 64-bit state.
use Rattle.std.specs.Prelude.{ℕ, zero, suc, ◌+◌, ◌*◌, ◌/◌, ◌%◌, ◌^◌, ◌==◌, nat_lt, if◌then◌else◌}
use Rattle.amm_work.specs.declared.draws.Draws.{Draws}
use Rattle.amm_work.specs.declared.draws.Kind.{Kind}
use Rattle.amm_work.specs.declared.draws.Kind.TheVariants as kinds

-- the state after one more draw, by Knuth's numbers for MMIX
unfoldable pub next_state : ℕ → ℕ
next_state x = (x * 6364136223846793005 + 1442695040888963407) % 2 ^ 64

-- the state after so many more
abbrev pub state_after : ℕ → ℕ → ℕ
state_after zero x = x
state_after (suc k) x = state_after k (next_state x)

-- what is drawn below m, where the draw leaves the state x
abbrev pub drawn : ℕ → ℕ → ℕ
drawn x m = (x / 2 ^ 33) % m

-- the kind of line for a number below 16
abbrev pub kind_of : ℕ → Kind
kind_of k =
    if nat_lt k 6 then kinds.SwapIn
    else if nat_lt k 8 then kinds.SwapOut
    else if k == 8 then kinds.SwapThrough
    else if k == 9 then kinds.Add
    else if k == 10 then kinds.Remove
    else if k == 11 then kinds.Time
    else if k == 12 then kinds.Flash
    else if k == 13 then kinds.Transfer
    else if k == 14 then kinds.Balance
    else kinds.Pool

-- the five draws from a state, in their order: the kind, the user, a token, how far behind it the
-- other one comes, and the amount
unfoldable pub draws_from : ℕ → Draws
draws_from x = record {
  kind = kind_of (drawn (state_after 1 x) 16);
  user = drawn (state_after 2 x) 4;
  a = drawn (state_after 3 x) 4;
  b = (drawn (state_after 3 x) 4 + 1 + drawn (state_after 4 x) 3) % 4;
  n = 1 + drawn (state_after 5 x) 1000000;
}
