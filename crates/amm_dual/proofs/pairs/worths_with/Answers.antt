use Rattle.std.proofs.Common.{◌∙◌, ap, sym, set, List, ℕ}
use Rattle.std.proofs.lemmas.List.{set-set}
use Rattle.amm_dual.specs.Singles.{worths_at}
use Rattle.amm_dual.proofs.pairs.worths_with.Goals as goal

pub returns-then-changes-clause-value : goal.returns-then-changes-clause-value
returns-then-changes-clause-value c =
    let now = c.args.running.now in
    let first = c.args.changes.first in
    let second = c.args.changes.second in
    c.worths_after_one-other.ensures.value
    ∙ sym (ap (λ (ps : List ℕ). worths_at now.problem ps)
    (ap (λ (k : ℕ). set (set now.prices k first.price) second.place second.price) c.if-changes.true ∙ set-set now.prices second.place first.price second.price))
