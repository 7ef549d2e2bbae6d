use Rattle.std.proofs.Common.{ℕ, ◌≤◌, ◌<◌, ◌^◌, subst, sym}
use Rattle.amm_dual.proofs.Steps.{price-in-range}
use Rattle.amm_dual.proofs.changes.price_after.Goals as goal

pub returns-clause-range : goal.returns-clause-range
returns-clause-range c =
    subst (λ (p : ℕ). (1 ≤ p) × (p < 2 ^ 40)) (sym c.price_among.ensures) (price-in-range c.args.prices.now c.args.changes c.args.place c.requires.place c.requires.ranges)
