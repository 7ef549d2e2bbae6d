use Rattle.std.proofs.Common.{◌∙◌, ℕ, arith, subst, length}
use Rattle.amm_split.specs.Pairs.{PairsBelow}
use Rattle.amm_split.proofs.AtSizes.{both_below, last_below}
use Rattle.amm_split.proofs.sizes.best_at.Goals as goal

pub returns-then-k-eq16-clause-best : goal.returns-then-k-eq16-clause-best
returns-then-k-eq16-clause-best c =
    last_below c.args.problem.now.pools c.args.paths.now c.args.d c.args.k c.best_one-single.result.amount c.deref.result.now c.if-k-eq16.true (c.deref.ensures.value ∙ c.in_ok-firsts.ensures.gives) c.best_one-single.ensures.best

pub returns-clause-best : goal.returns-clause-best
returns-clause-best c =
    both_below c.args.problem.now.pools c.args.paths.now c.args.d c.args.k c.best_one-single.result.amount c.best_pair-pair.result.amount c.in_ok-firsts.firsts.items c.in_ok-seconds.seconds.items
    c.best_pair-pair.ensures.more c.in_ok-firsts.ensures.gives c.in_ok-seconds.ensures.gives (rw c.deref.ensures.value at c.best_one-single.ensures.best)
    (rw (c.deref-2.ensures.value, c.deref-3.ensures.value) at c.best_pair-pair.ensures.best)

pub returns-then-pair-single-clause-best : goal.returns-then-pair-single-clause-best
returns-then-pair-single-clause-best c =
    both_below c.args.problem.now.pools c.args.paths.now c.args.d c.args.k c.best_one-single.result.amount c.best_one-single.result.amount c.in_ok-firsts.firsts.items c.in_ok-seconds.seconds.items
    (omega arith) c.in_ok-firsts.ensures.gives c.in_ok-seconds.ensures.gives (rw c.deref.ensures.value at c.best_one-single.ensures.best)
    (subst (λ (n : ℕ). PairsBelow c.args.paths.now c.in_ok-firsts.firsts.items c.in_ok-seconds.seconds.items n (length c.args.paths.now)) c.if-pair-single.true (rw (c.deref-2.ensures.value, c.deref-3.ensures.value) at c.best_pair-pair.ensures.best))
