use Rattle.std.proofs.Common.{◌<◌, ◌≤◌, ◌/◌, ◌-◌, ◌+◌, ◌%◌, true, false, sym, arith, length, ap, ◌∙◌, ℕ, nat_eq}
use Rattle.std.specs.Prelude.{nat_le}
use Rattle.std.proofs.lemmas.Bool.{lt-ltb}
use Rattle.amm_dual.specs.Moves.{pool_move}
use Rattle.amm_dual.proofs.Numbers.{move_of-is, not_lt}
use Rattle.amm_dual.proofs.moves.move_at.Goals as goal

pub returns-then-who-count-clause-same : goal.returns-then-who-count-clause-same
returns-then-who-count-clause-same c =
    let n = c.args.n in
    let below : n / 64 < length c.args.problem.now.tokens = omega (arith, ap length c.tokens-count.ensures.list) in
    c.token_move.ensures ∙ sym (move_of-is c.args.problem.now n true (lt-ltb (n / 64) _ below))

pub returns-clause-same : goal.returns-clause-same
returns-clause-same c =
    let n = c.args.n in
    let problem = c.args.problem.now in
    let past : length problem.tokens ≤ n / 64 = omega (arith, ap length c.tokens-count.ensures.list) in
    c.pool_move.ensures
    ∙ ap (λ (count : ℕ). pool_move problem (n / 64 - count) (n % 64 / 4 + 1) (nat_le 2 (n % 4)) (nat_eq (n % 2) 1)) (ap length c.tokens-count.ensures.list)
    ∙ sym (move_of-is problem n false (not_lt (n / 64) (length problem.tokens) past))
