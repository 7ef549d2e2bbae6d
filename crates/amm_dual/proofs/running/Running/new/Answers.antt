use Rattle.std.proofs.Common.{◌∙◌, List, ℕ, ap, length, map, subst, sym}
use Rattle.std.specs.Prelude.{sum_by}
use Rattle.amm_model.specs.Routing.{ArePrices}
use Rattle.amm_model.specs.Bound.{pool_worth}
use Rattle.amm_dual.proofs.running.Running.new.Goals as goal

pub invariant_of-result : goal.invariant_of-result
invariant_of-result c =
    let problem = c.args.problem.now in
    let same = c.in_ok-from_slice.ensures.items in (
      c.worths_of.ensures.sound,
      subst (λ (ps : List ℕ). ArePrices ps) (sym (same ∙ c.as_slice-list.ensures.list)) c.as_slice-list.ensures.ranges,
      ap length (same ∙ c.as_slice-list.ensures.list) ∙ c.requires,
      c.in_ok-worths.ensures.worths ∙ ap (λ (ps : List ℕ). map (pool_worth problem.tokens ps) problem.pools) (sym same),
      c.total_of-total.ensures.value ∙ ap (λ (ps : List ℕ). sum_by (pool_worth problem.tokens ps) problem.pools) (sym same),
      c.total_of-total.ensures.below,
      c.in_ok-nexts_of.ensures,
    )
