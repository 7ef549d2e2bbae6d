use Rattle.std.proofs.Common.{◌≡◌, ◌∙◌, ◌<◌, ◌≤◌, ◌*◌, ◌^◌, ℕ, List, arith, ap, sym, take, length, get_or}
use Rattle.std.proofs.lemmas.List.{take_all}
use Rattle.std.proofs.lemmas.Nat.{mul-lt}
use Rattle.amm_model.specs.Routing.{OpenView}
use Rattle.amm_dual.specs.Flows.{value_in}
use Rattle.amm_dual.proofs.Values.{value_in-more}
use Rattle.amm_dual.proofs.flows.value_of.Goals as goal

pub overflow_add-value : goal.overflow_add-value
overflow_add-value c =
    let few = ap (λ (o : OpenView). length o.tokens) c.problem.ensures.same in
    let below : c.loop-j.j < length c.args.amounts.now = omega (arith, c.loop-j-test.true) in
    let term = mul-lt c.price.result (get_or c.args.amounts.now c.loop-j.j 0) (2 ^ 40) (2 ^ 73) c.price.ensures.range.1 (c.requires.few c.loop-j.j 0 below) in
    omega (arith, term, c.loop-j.invariant.below, c.target-few.ensures.few, c.requires.many, few)

pub loop-j-preserved : goal.loop-j-preserved
loop-j-preserved c =
    let now = c.args.running.now in
    let below : c.loop-j.j < length c.args.amounts.now = omega (arith, c.loop-j-test.true) in
    let as_many : length now.prices ≡ length c.args.amounts.now = c.problem.ensures.many ∙ sym c.requires.many in
    let term = mul-lt c.price.result (get_or c.args.amounts.now c.loop-j.j 0) (2 ^ 40) (2 ^ 73) c.price.ensures.range.1 (c.requires.few c.loop-j.j 0 below) in
    let more = value_in-more now.prices c.args.amounts.now c.loop-j.j (omega (arith, below, as_many)) as_many in
    let same : c.price.result * get_or c.args.amounts.now c.loop-j.j 0 ≡ get_or now.prices c.loop-j.j 0 * get_or c.args.amounts.now c.loop-j.j 0 = ap (λ (n : ℕ). n * get_or c.args.amounts.now c.loop-j.j 0) c.price.ensures.value in
    record { value_is = omega (arith, more, same, c.loop-j.invariant.value_is); below = omega (arith, term, c.loop-j.invariant.below) }

pub returns-clause-value : goal.returns-clause-value
returns-clause-value c =
    let now = c.args.running.now in
    let past : length c.args.amounts.now ≤ c.loop-j.j = omega (arith, c.loop-j-test.false) in
    let as_many : length now.prices ≡ length c.args.amounts.now = c.problem.ensures.many ∙ sym c.requires.many in
    c.loop-j.invariant.value_is ∙ ap (λ (ps : List ℕ). value_in ps (take c.loop-j.j c.args.amounts.now)) (take_all c.loop-j.j now.prices (omega (arith, past, as_many))) ∙ ap (value_in now.prices) (take_all c.loop-j.j c.args.amounts.now past)
