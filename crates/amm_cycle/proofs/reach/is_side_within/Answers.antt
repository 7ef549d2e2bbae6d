use Rattle.std.proofs.Common.{◌≤◌, ◌+◌, ◌-◌, ◌*◌, ◌^◌, ℕ, arith, get_or, subst}
use borrow.Author.Count.{below_more}
use Rattle.std.proofs.lemmas.Nat.{one_shl}
use Rattle.amm_cycle.proofs.Ceilings.{amount_out-le}
use Rattle.amm_cycle.proofs.reach.is_side_within.Goals as goal

pub loop-e-preserved : goal.loop-e-preserved
loop-e-preserved c =
    let worth = (1000 - c.args.fee) * c.args.rout in
    let price = 1000 * c.args.rin in
    below_more (λ (k : ℕ). get_or c.args.powers.now.amounts k 0 * worth ≤ (2 ^ k + c.args.most) * price) c.loop-e.e c.loop-e.invariant
    (subst (λ (n : ℕ). get_or c.args.powers.now.amounts c.loop-e.e 0 * worth ≤ (n + c.args.most) * price) (one_shl c.loop-e.e 64 (omega arith)) c.if-powers-e.false)

pub returns : goal.returns
returns c _ e below = amount_out-le c.args.fee (get_or c.args.powers.now.amounts e 0) c.args.rin c.args.rout (2 ^ e + c.args.most) (c.loop-e.invariant e (omega arith))
