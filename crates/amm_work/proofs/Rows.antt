-- Each command of the lines has a row: its names are names, its numbers within their limits.
use Rattle.std.proofs.Common.{◌≡◌, ◌≤◌, ◌<◌, ◌+◌, ◌/◌, ◌%◌, ℕ, zero, suc, List, [], ◌∷◌, Bool, true, false, refl, arith}
use Rattle.std.specs.Prelude.{IsTrue, codes, if◌then◌else◌, nat_lt, ◌==◌, min, max}
use Rattle.std.specs.List.{All, AllByRecursion}
use Rattle.std.proofs.lemmas.List.Elements.{All-nil, All-cons}
use Rattle.amm_names.specs.Names.{is_user_name, is_token_name}
use Rattle.amm_names.specs.Pools.{is_pool_name, pool_token0, pool_token1, pool_fee}
use Rattle.amm_model.specs.declared.route_path.RoutePath.{RoutePath}
use Rattle.amm_model.specs.Swap.{IsFee}
use Rattle.amm_model.specs.CommandView.{CommandView}
use Rattle.amm_rows.specs.Writable.{IsRow, IsPathRow, IsAddRow, IsRemoveRow}
use Rattle.amm_work.specs.declared.draws.Draws.{Draws}
use Rattle.amm_work.specs.declared.draws.Kind.{Kind}
use Rattle.amm_work.specs.declared.draws.Kind.TheVariants as kinds
use Rattle.amm_work.specs.declared.work_line.WorkLine.{WorkLine}
use Rattle.amm_work.specs.declared.work_line.WorkLine.TheVariants.{Deposit, FirstAdd, Split, Certificate, Drawn}
use Rattle.amm_work.specs.Draws.{draws_from, state_after}
use Rattle.amm_work.specs.Names.{user_name, token_name, pool_name, pool_in_order, next_user, third_token}
use Rattle.amm_work.specs.Commands.{add_of, command_of, commands_from, drawn_command, later_from, line_from}

user_named : (u : ℕ) → IsTrue (is_user_name (user_name u))
user_named u = by (u == 0) (u == 1) (u == 2)
  where
    by : (p q r : Bool) → IsTrue (is_user_name (if p then codes "u0" else if q then codes "u1" else if r then codes "u2" else codes "u3"))
    by true q r = refl
    by false true r = refl
    by false false true = refl
    by false false false = refl

token_named : (t : ℕ) → IsTrue (is_token_name (token_name t))
token_named t = by (t == 0) (t == 1) (t == 2)
  where
    by : (p q r : Bool) → IsTrue (is_token_name (if p then codes "AA" else if q then codes "BB" else if r then codes "CC" else codes "DD"))
    by true q r = refl
    by false true r = refl
    by false false true = refl
    by false false false = refl

pool_named : (low high : ℕ) → IsTrue (is_pool_name (pool_in_order low high))
unfolding is_pool_name pool_token0 pool_token1 pool_fee
pool_named low high = by (low == 0) (low == 1) (high == 1) (high == 2)
  where
    by : (p q r s : Bool) → IsTrue (is_pool_name (
        if p then (if r then codes "AA/BB" else if s then codes "AA/CC" else codes "AA/DD")
        else if q then (if s then codes "BB/CC" else codes "BB/DD")
        else codes "CC/DD"))
    by true q true s = refl
    by true q false true = refl
    by true q false false = refl
    by false true r true = refl
    by false true r false = refl
    by false false r s = refl

abbrev IsToken : List ℕ → Type 0
IsToken name = IsTrue (is_token_name name)

one_token : (a : ℕ) (names : List (List ℕ)) → All IsToken names → All IsToken (token_name a ∷ names)
one_token a names h = All-cons IsToken (token_name a) names (token_named a) h

two : (a b : ℕ) → IsPathRow (record { tokens = token_name a ∷ token_name b ∷ []; fees = 3 ∷ [] })
two a b = record {
  whole = record { fees = All-cons IsFee 3 [] refl (All-nil IsFee); between = refl; least = omega arith; most = omega arith };
  tokens = one_token a (token_name b ∷ []) (one_token b [] (All-nil IsToken));
}

three : (a b c : ℕ) → IsPathRow (record { tokens = token_name a ∷ token_name b ∷ token_name c ∷ []; fees = 3 ∷ 3 ∷ [] })
three a b c = record {
  whole = record { fees = All-cons IsFee 3 (3 ∷ []) refl (All-cons IsFee 3 [] refl (All-nil IsFee)); between = refl; least = omega arith; most = omega arith };
  tokens = one_token a (token_name b ∷ token_name c ∷ []) (one_token b (token_name c ∷ []) (one_token c [] (All-nil IsToken)));
}

add_row : (u a b n : ℕ) → n ≤ 10000000000 → IsRow (add_of u a b n)
add_row u a b n h =
    let want : IsAddRow (record { a = token_name a; b = token_name b; fee = 3; a_desired = n; b_desired = n; a_min = 0; b_min = 0 }) = record { a = token_named a; b = token_named b; fee = refl; a_desired = omega (arith, h); b_desired = omega (arith, h); a_min = omega arith; b_min = omega arith } in
    (user_named u, ((want, (user_named u, omega arith)), omega arith))

drawn_row : (kind : Kind) (i : ℕ) (d : Draws) → d.n ≤ 1000000 → i ≤ 100000 → IsRow (drawn_command kind i d)
drawn_row kinds.SwapIn i d h le = (user_named d.user, ((two d.a d.b, (omega (arith, h), (omega arith, (user_named d.user, omega arith)))), omega arith))
drawn_row kinds.SwapOut i d h le = (user_named d.user, ((two d.a d.b, (omega (arith, h), (omega arith, (user_named d.user, omega arith)))), omega arith))
drawn_row kinds.SwapThrough i d h le = (user_named d.user, ((three d.a d.b (third_token d.a d.b), (omega (arith, h), (omega arith, (user_named d.user, omega arith)))), omega arith))
drawn_row kinds.Add i d h le = add_row d.user d.a d.b d.n (omega (arith, h))
drawn_row kinds.Remove i d h le =
    let want : IsRemoveRow (record { a = token_name d.a; b = token_name d.b; fee = 3; shares = d.n; a_min = 0; b_min = 0 }) = record { a = token_named d.a; b = token_named d.b; fee = refl; shares = omega (arith, h); a_min = omega arith; b_min = omega arith } in
    (user_named 0, ((want, (user_named 0, omega arith)), omega arith))
drawn_row kinds.Time i d h le = omega (arith, le)
drawn_row kinds.Flash i d h le =
    let pool = pool_named (min d.a d.b) (max d.a d.b) in
    (user_named d.user, ((pool, (omega (arith, h), (omega arith, ((token_named (min d.a d.b), (pool, omega (arith, h))), tt)))), omega arith))
drawn_row kinds.Transfer i d h le = (user_named d.user, ((token_named d.a, (user_named (next_user d.user), omega (arith, h))), omega arith))
drawn_row kinds.Balance i d h le = (token_named d.a, user_named d.user)
drawn_row kinds.Pool i d h le = pool_named (min d.a d.b) (max d.a d.b)

-- the line of a line and a state
abbrev line_in : WorkLine × ℕ → WorkLine
line_in pair = pair.0

amount_drawn : (x : ℕ) → (draws_from x).n ≤ 1000000
unfolding draws_from
amount_drawn x = omega arith

later_row : (x i : ℕ) → i ≤ 100000 → IsRow (command_of (later_from x i).0)
unfolding later_from
later_row x i le = by (i % 1000 == 500) (i % 1000 == 501)
  where
    by : (p q : Bool) → IsRow (command_of (line_in (if p then (Split (1000000 + i), x) else if q then (Certificate (i / 1000 + 1), x) else (Drawn i (draws_from x), state_after 5 x))))
    by true q = (refl, (refl, omega (arith, le)))
    by false true = omega (arith, le)
    by false false = drawn_row (draws_from x).kind i (draws_from x) (amount_drawn x) le

line_row : (x i : ℕ) → i ≤ 100000 → IsRow (command_of (line_from x i).0)
unfolding line_from
line_row x i le = by (nat_lt i 16) (i == 16) (i == 17) (i == 18) (i == 19) (i == 20) (i == 21)
  where
    pair : (a b : ℕ) → IsRow (command_of (FirstAdd a b))
    pair a b = add_row 0 a b 10000000000 (omega arith)

    by : (p a b c d e f : Bool) → IsRow (command_of (line_in (
        if p then (Deposit (i / 4) (i % 4), x)
        else if a then (FirstAdd 0 1, x)
        else if b then (FirstAdd 0 2, x)
        else if c then (FirstAdd 0 3, x)
        else if d then (FirstAdd 1 2, x)
        else if e then (FirstAdd 1 3, x)
        else if f then (FirstAdd 2 3, x)
        else later_from x i)))
    by true a b c d e f = (user_named (i / 4), (token_named (i % 4), omega arith))
    by false true b c d e f = pair 0 1
    by false false true c d e f = pair 0 2
    by false false false true d e f = pair 0 3
    by false false false false true e f = pair 1 2
    by false false false false false true f = pair 1 3
    by false false false false false false true = pair 2 3
    by false false false false false false false = later_row x i le

-- what holds of each command that has a row holds of each of the lines
pub each_row : (P : CommandView → Type 0) → ((c : CommandView) → IsRow c → P c) → (x i count : ℕ) → i + count ≤ 100000 → AllByRecursion P (commands_from x i count)
each_row P holds x i zero le = tt
each_row P holds x i (suc count) le =
    (holds (command_of (line_from x i).0) (line_row x i (omega (arith, le))), each_row P holds (line_from x i).1 (i + 1) count (omega (arith, le)))
