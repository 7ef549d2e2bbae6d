use Rattle.std.proofs.Common.{arith, subst}
use Rattle.amm_model.specs.Routing.{IsOpenProblem, OpenView}
use Rattle.amm_dual.proofs.Shared.{shared-more}
use Rattle.amm_dual.proofs.pairs.shared_at.Goals as goal

pub overflow_add-result-2 : goal.overflow_add-result-2
overflow_add-result-2 c =
    let sound = subst (λ (o : OpenView). IsOpenProblem o) c.problem.ensures.same c.target-few.ensures.sound in
    omega (arith, sound.parts.few, c.requires.within, c.requires.before.few_gained, c.worth_with.ensures.below, c.worth.ensures.below)

pub overflow_add-result-4 : goal.overflow_add-result-4
overflow_add-result-4 c =
    let sound = subst (λ (o : OpenView). IsOpenProblem o) c.problem.ensures.same c.target-few.ensures.sound in
    omega (arith, sound.parts.few, c.requires.within, c.requires.before.few_lost, c.worth_alone-after_one.ensures.below, c.worth_alone-after_other.ensures.below)

pub returns : goal.returns
returns c =
    let now = c.args.running.now in
    shared-more now.problem now.prices c.args.changes c.args.i c.args.balance c.worth.result c.worth_with.result c.worth_alone-after_one.result c.worth_alone-after_other.result c.requires.within
    c.worth.ensures.value c.worth_with.ensures.value c.worth_alone-after_one.ensures.value c.worth_alone-after_other.ensures.value
    c.worth.ensures.below c.worth_with.ensures.below c.worth_alone-after_one.ensures.below c.worth_alone-after_other.ensures.below c.requires.before
