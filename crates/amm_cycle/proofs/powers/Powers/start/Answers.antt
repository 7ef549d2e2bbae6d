use Rattle.std.proofs.Common.{◌≡◌, ◌<◌, ◌^◌, ◌∙◌, ℕ, arith, refl, subst, sym}
use Rattle.std.proofs.lemmas.List.{length-set}
use Rattle.std.proofs.lemmas.Nat.{one_shl, pow_below}
use Rattle.amm_cycle.proofs.Gifts.{set_more}
use Rattle.amm_cycle.proofs.powers.Powers.start.Goals as goal

pub loop-e-init : goal.loop-e-init
loop-e-init c = record { long = refl; each = λ k below. absurd (omega arith); below = λ k below. absurd (omega arith) }

pub loop-e-preserved : goal.loop-e-preserved
loop-e-preserved c =
    let e = c.loop-e.e in
    let inside : e < 52 = omega arith in
    let shifted = one_shl e 64 (omega arith) in
    record {
      long = length-set c.loop-e.amounts e _ ∙ c.loop-e.invariant.long;
      each = set_more (λ (k n : ℕ). n ≡ 2 ^ k) c.loop-e.amounts e _ (omega (arith, c.loop-e.invariant.long)) c.loop-e.invariant.each shifted;
      below = set_more (λ (k n : ℕ). n < 2 ^ 52) c.loop-e.amounts e _ (omega (arith, c.loop-e.invariant.long)) c.loop-e.invariant.below (subst (λ (n : ℕ). n < 2 ^ 52) (sym shifted) (pow_below e 52 inside));
    }
