use Rattle.std.proofs.Common.{◌≡◌, ◌<◌, ◌^◌, ◌∙◌, ℕ, arith, refl, get_or}
use Rattle.std.proofs.lemmas.List.{length-set}
use Rattle.amm_model.specs.Paths.{hop_gives}
use Rattle.amm_cycle.proofs.Gifts.{set_more}
use Rattle.amm_cycle.proofs.powers.Powers.with.Goals as goal

pub loop-e-init : goal.loop-e-init
loop-e-init c = record { long = refl; each = λ k below. absurd (omega arith); below = λ k below. absurd (omega arith) }

pub loop-e-preserved : goal.loop-e-preserved
loop-e-preserved c =
    let e = c.loop-e.e in
    record {
      long = length-set c.loop-e.amounts e _ ∙ c.loop-e.invariant.long;
      each = set_more (λ (k n : ℕ). n ≡ hop_gives c.args.problem.now.pools c.args.hop (get_or c.args.self.now.amounts k 0)) c.loop-e.amounts e _ (omega (arith, c.loop-e.invariant.long)) c.loop-e.invariant.each c.hop_at.ensures.value;
      below = set_more (λ (k n : ℕ). n < 2 ^ 52) c.loop-e.amounts e _ (omega (arith, c.loop-e.invariant.long)) c.loop-e.invariant.below (omega (arith, c.hop_at.ensures.below));
    }
