use Rattle.std.proofs.Common.{ℕ, arith, subst, ◌≤◌, ◌+◌, ◌*◌, ◌^◌}
use Rattle.amm_model.specs.Bound.{worth_of}
use Rattle.amm_model.specs.Routing.{fee_of}
use Rattle.amm_dual.proofs.TradeLaw.{first_for_second, second_for_first}
use Rattle.amm_dual.proofs.trades.trade_of.Goals as goal

pub returns-then-first-gt0 : goal.returns-then-first-gt0
returns-then-first-gt0 c = λ q0 q1.
    let pool = c.args.pool.now in
    let r = c.requires.reserves in
    let x = c.best_input-first.result in
    let y = c.paid.result in
    let covers : q1 * y ≤ q0 * x + 2 ^ 14 * (worth_of (fee_of pool) pool.r0 pool.r1 q0 q1 + 1) =
    subst (λ (fee : ℕ). q1 * y ≤ q0 * x + 2 ^ 14 * (worth_of fee pool.r0 pool.r1 q0 q1 + 1)) c.fee.ensures.value
    (first_for_second c.fee.result pool.r0 pool.r1 x y q0 q1 (omega arith) (omega (arith, r.0)) (omega (arith, r.2)) c.paid.ensures) in
    omega (arith, covers)

pub returns : goal.returns
returns c = λ q0 q1.
    let pool = c.args.pool.now in
    let r = c.requires.reserves in
    let x = c.best_input-second.result in
    let y = c.paid-2.result in
    let covers : q0 * y ≤ q1 * x + 2 ^ 14 * (worth_of (fee_of pool) pool.r0 pool.r1 q0 q1 + 1) =
    subst (λ (fee : ℕ). q0 * y ≤ q1 * x + 2 ^ 14 * (worth_of fee pool.r0 pool.r1 q0 q1 + 1)) c.fee.ensures.value
    (second_for_first c.fee.result pool.r0 pool.r1 x y q0 q1 (omega arith) (omega (arith, r.0)) (omega (arith, r.2)) c.paid-2.ensures) in
    omega (arith, covers)
