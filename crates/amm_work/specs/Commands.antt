-- The commands of a seed and a count, and their lines.
use Rattle.std.specs.Prelude.{ℕ, zero, suc, List, [], ◌∷◌, ◌++◌, ◌+◌, ◌-◌, ◌/◌, ◌%◌, ◌==◌, nat_lt, codes, if◌then◌else◌}
use Rattle.std.specs.List.{flat_map}
use Rattle.serde_json.specs.Written.{compact_text}
use Rattle.amm_names.specs.declared.holder.Asset.TheVariants as assets
use Rattle.amm_names.specs.declared.holder.Holder.{Holder}
use Rattle.amm_names.specs.declared.holder.Holder.TheVariants as holders
use Rattle.amm_model.specs.declared.command.AddWant.{AddWant}
use Rattle.amm_model.specs.declared.limits.TheConstants.{AMOUNT_LIMIT}
use Rattle.amm_model.specs.CommandView as command
use Rattle.amm_model.specs.CommandView.{CommandView, Move, no_moves, move}
use Rattle.amm_command.specs.Rows.{row_value}
use Rattle.amm_work.specs.declared.draws.Draws.{Draws}
use Rattle.amm_work.specs.declared.draws.Kind.{Kind}
use Rattle.amm_work.specs.declared.draws.Kind.TheVariants as kinds
use Rattle.amm_work.specs.declared.work_line.WorkLine.{WorkLine}
use Rattle.amm_work.specs.declared.work_line.WorkLine.TheVariants.{Deposit, FirstAdd, Split, Certificate, Drawn}
use Rattle.amm_work.specs.Draws.{draws_from, state_after}
use Rattle.amm_work.specs.Names.{user_name, token_name, pool_name, token0_name, next_user, third_token}

abbrev user : ℕ → Holder
user u = holders.User (user_name u)

-- The pools have the fee of 3 thousandths. No deadline passes.

abbrev pub add_of : ℕ → ℕ → ℕ → ℕ → CommandView
add_of u a b n = command.act (user_name u) (command.add
    (record { a = token_name a; b = token_name b; fee = 3; a_desired = n; b_desired = n; a_min = 0; b_min = 0 }) (user u) AMOUNT_LIMIT)

-- what is paid back for a loan of n
abbrev pub paid_back : ℕ → ℕ
paid_back n = n + n / 300 + 1

-- the command of a kind, on the line with this number (counted from 0)
abbrev pub drawn_command : Kind → ℕ → Draws → CommandView
drawn_command kinds.SwapIn i d = command.act (user_name d.user)
    (command.swap_in (record { tokens = token_name d.a ∷ token_name d.b ∷ []; fees = 3 ∷ [] }) d.n 0 (user d.user) AMOUNT_LIMIT)
drawn_command kinds.SwapOut i d = command.act (user_name d.user)
    (command.swap_out (record { tokens = token_name d.a ∷ token_name d.b ∷ []; fees = 3 ∷ [] }) d.n 1000000000 (user d.user) AMOUNT_LIMIT)
drawn_command kinds.SwapThrough i d = command.act (user_name d.user)
    (command.swap_in (record { tokens = token_name d.a ∷ token_name d.b ∷ token_name (third_token d.a d.b) ∷ []; fees = 3 ∷ 3 ∷ [] }) d.n 0 (user d.user) AMOUNT_LIMIT)
drawn_command kinds.Add i d = add_of d.user d.a d.b d.n
drawn_command kinds.Remove i d = command.act (user_name 0)
    (command.remove (record { a = token_name d.a; b = token_name d.b; fee = 3; shares = d.n; a_min = 0; b_min = 0 }) (user 0) AMOUNT_LIMIT)
drawn_command kinds.Time i d = command.time i
drawn_command kinds.Flash i d = command.act (user_name d.user) (command.flash (pool_name d.a d.b) d.n 0
    (move (command.transfer (assets.Token (token0_name d.a d.b)) (holders.Pool (pool_name d.a d.b)) (paid_back d.n)) no_moves))
drawn_command kinds.Transfer i d = command.act (user_name d.user) (command.transfer (assets.Token (token_name d.a)) (user (next_user d.user)) d.n)
drawn_command kinds.Balance i d = command.balance (assets.Token (token_name d.a)) (user d.user)
drawn_command kinds.Pool i d = command.pool (pool_name d.a d.b)

-- the command that a line has
abbrev pub command_of : WorkLine → CommandView
command_of (Deposit u t) = command.deposit (user_name u) (token_name t) 1000000000000
command_of (FirstAdd a b) = add_of 0 a b 10000000000
command_of (Split amount) = command.split (codes "AA") (codes "BB") amount
command_of (Certificate number) = command.certificate number
command_of (Drawn i draws) = drawn_command draws.kind i draws

-- the line with this number behind the opening, and the state after it: once in a thousand lines a
-- split and its certificate, for which nothing is drawn
unfoldable pub later_from : ℕ → ℕ → WorkLine × ℕ
later_from x i =
    if i % 1000 == 500 then (Split (1000000 + i), x)
    else if i % 1000 == 501 then (Certificate (i / 1000 + 1), x)
    else (Drawn i (draws_from x), state_after 5 x)

-- The line with this number, and the state after it. The opening draws nothing: four deposits for
-- each user, and six pools.
unfoldable pub line_from : ℕ → ℕ → WorkLine × ℕ
line_from x i =
    if nat_lt i 16 then (Deposit (i / 4) (i % 4), x)
    else if i == 16 then (FirstAdd 0 1, x)
    else if i == 17 then (FirstAdd 0 2, x)
    else if i == 18 then (FirstAdd 0 3, x)
    else if i == 19 then (FirstAdd 1 2, x)
    else if i == 20 then (FirstAdd 1 3, x)
    else if i == 21 then (FirstAdd 2 3, x)
    else later_from x i

-- so many commands, from a state and a number on
abbrev pub commands_from : ℕ → ℕ → ℕ → List CommandView
commands_from x i zero = []
commands_from x i (suc count) = command_of (line_from x i).0 ∷ commands_from (line_from x i).1 (i + 1) count

abbrev pub commands_of : ℕ → ℕ → List CommandView
commands_of seed count = commands_from seed 0 count

-- a command's row and a newline
unfoldable pub line_text : CommandView → List ℕ
line_text asked = compact_text (row_value asked) ++ 10 ∷ []

-- the bytes of the lines
unfoldable pub work_bytes : ℕ → ℕ → List ℕ
work_bytes seed count = flat_map line_text (commands_of seed count)
