use Rattle.std.proofs.Common.{◌≡◌, ◌∙◌, length, List, ℕ, subst, sym, ap}
use Rattle.amm_model.specs.Routing.{OpenView}
use Rattle.amm_model.specs.Settled.{IsSettled}
use Rattle.amm_model.specs.Bound.{price_of}
use Rattle.amm_dual.specs.declared.singles.Single.{Single}
use Rattle.amm_dual.specs.Singles.{AreSingles}
use Rattle.amm_dual.proofs.Steps.{settled-from}
use Rattle.amm_dual.proofs.descent.descended.Goals as goal

pub returns : goal.returns
returns c =
    let last = c.pass.new.running in
    let same = c.pass.ensures.problem ∙ c.loop-singles.invariant.problem in
    let prices = c.into_prices.ensures.same in
    let many : length last.prices ≡ length last.problem.tokens = c.pass.ensures.many ∙ c.loop-singles.invariant.many ∙ sym (ap (λ (o : OpenView). length o.tokens) same) in
    subst (λ (o : OpenView). IsSettled o c.into_prices.result) same
    (subst (λ (ps : List ℕ). IsSettled last.problem ps) (sym prices)
    (settled-from last.problem last.prices many (rw prices at c.into_prices.ensures.ranges) (c.pass.ensures.unit ∙ c.loop-singles.invariant.unit) (c.pass.ensures.steady c.loop-singles-test.false)))

pub loop-singles-init : goal.loop-singles-init
loop-singles-init c =
    let running = c.lower_prices.new.running in
    let same = c.lower_prices.ensures.problem ∙ c.in_ok-running.ensures.problem in
    let prices = c.in_ok-running.ensures.prices in
    record {
      singles = subst (λ (list : List Single). AreSingles running.problem running.prices list) (sym c.as_mut_slice-singles.ensures.value)
          (subst (λ (o : OpenView). AreSingles o running.prices c.in_ok-list.list.items) (sym same) (c.in_ok-list.ensures running.prices));
      given = ap length c.as_mut_slice-given.ensures.value ∙ c.in_ok-list_of_given.ensures ∙ sym (ap (λ (o : OpenView). length o.tokens) same);
      taken = ap length c.as_mut_slice-taken.ensures.value ∙ c.in_ok-list_of_taken.ensures ∙ sym (ap (λ (o : OpenView). length o.tokens) same);
      problem = same;
      many = c.lower_prices.ensures.many ∙ ap length prices ∙ c.requires.many;
      unit = c.lower_prices.ensures.unit ∙ ap (λ (o : OpenView). price_of o.tokens c.in_ok-running.running.prices o.t) c.in_ok-running.ensures.problem
          ∙ ap (λ (ps : List ℕ). price_of c.args.problem.now.tokens ps c.args.problem.now.t) prices ∙ c.requires.unit;
    }
