use Rattle.std.proofs.Common.{◌∙◌, ap, List, ℕ}
use Rattle.std.proofs.lemmas.List.{set-set}
use Rattle.amm_dual.specs.Singles.{worths_at}
use Rattle.amm_dual.proofs.Shared.{singles-more}
use Rattle.amm_dual.proofs.singles.worths_after_one.Goals as goal

pub returns-clause-singles : goal.returns-clause-singles
returns-clause-singles c =
    let now = c.args.running.now in
    let change = c.args.change in
    singles-more now.problem now.prices c.args.singles.now change.place c.args.slot change.price c.pools_after-worths.result c.requires.slot
    (c.pools_after-worths.ensures.value ∙ ap (λ (ps : List ℕ). worths_at now.problem ps) (set-set now.prices change.place change.price change.price)) c.pools_after-worths.ensures.below c.requires.singles

pub returns-clause-value : goal.returns-clause-value
returns-clause-value c =
    let now = c.args.running.now in
    let change = c.args.change in
    c.pools_after-worths.ensures.value ∙ ap (λ (ps : List ℕ). worths_at now.problem ps) (set-set now.prices change.place change.price change.price)
