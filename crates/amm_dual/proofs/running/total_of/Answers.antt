use Rattle.std.proofs.Common.{◌∙◌, ◌<◌, arith, ap, length, ℕ}
use Rattle.std.proofs.Math.ListN.{length-map}
use Rattle.std.proofs.lemmas.List.Sums.{sum_by_more}
use Rattle.std.proofs.lemmas.List.{take_all}
use Rattle.std.specs.Prelude.{sum_by}
use Rattle.amm_model.specs.Bound.{pool_worth}
use Rattle.amm_dual.proofs.Worths.{kept-worth-lt}
use Rattle.amm_dual.proofs.Skips.{total-is}
use Rattle.amm_dual.proofs.running.total_of.Goals as goal

pub loop-i-preserved : goal.loop-i-preserved
loop-i-preserved c =
    let problem = c.args.problem.now in
    let below : c.loop-i.i < length c.args.worths.now = omega (arith, c.loop-i-test.true) in
    let more = sum_by_more (λ (w : ℕ). w) c.args.worths.now c.loop-i.i 0 below in
    let lt = kept-worth-lt problem c.args.prices.now c.args.worths.now c.loop-i.i c.target-sound.ensures.sound c.requires.prices c.requires.many c.requires.worths below in
    let was = c.loop-i.invariant.value_is in
    let few = c.loop-i.invariant.below in
    record { value_is = omega arith; below = omega arith }

pub overflow_add-total : goal.overflow_add-total
overflow_add-total c =
    let problem = c.args.problem.now in
    let below : c.loop-i.i < length c.args.worths.now = omega (arith, c.loop-i-test.true) in
    let lt = kept-worth-lt problem c.args.prices.now c.args.worths.now c.loop-i.i c.target-sound.ensures.sound c.requires.prices c.requires.many c.requires.worths below in
    let many = ap length c.requires.worths ∙ length-map problem.pools (pool_worth problem.tokens c.args.prices.now) in
    omega (arith, c.loop-i.invariant.below, c.target-sound.ensures.sound.parts.few)

pub returns-clause-value : goal.returns-clause-value
returns-clause-value c =
    let whole = take_all c.loop-i.i c.args.worths.now (omega (arith, c.loop-i-test.false)) in
    c.loop-i.invariant.value_is ∙ ap (sum_by (λ (w : ℕ). w)) whole ∙ total-is c.args.problem.now c.args.prices.now c.args.worths.now c.requires.worths

pub returns-clause-below : goal.returns-clause-below
returns-clause-below c =
    let problem = c.args.problem.now in
    let many = ap length c.requires.worths ∙ length-map problem.pools (pool_worth problem.tokens c.args.prices.now) in
    omega (arith, c.loop-i.invariant.below, c.target-sound.ensures.sound.parts.few, many)
