use Rattle.std.proofs.Common.{◌-◌, arith, length, sym, refl, ◌∙◌}
use Rattle.std.proofs.lemmas.List.{get_or_read_under}
use Rattle.amm_model.specs.declared.problem.ProblemPool.{ProblemPool}
use Rattle.amm_model.specs.Routing.{no_pool}
use Rattle.amm_model.proofs.Problems.{not_before, pairs_before}
use Rattle.amm_model.proofs.parts.are_ascending.Goals as goal

pub returns-then-ge : goal.returns-then-ge
returns-then-ge c = (
  λ says. absurd cc,
  λ pairs.
      let pools = c.args.pools.now in
      let first = get_or_read_under pools (c.loop-i.i - 1) (length pools) c.index-pools-i.result no_pool c.index-pools-i.is (omega arith) refl in
      let second = get_or_read_under pools c.loop-i.i (length pools) c.index-pools-i-in-loop-i.result no_pool c.index-pools-i-in-loop-i.is c.loop-i-test.true refl in
      let past = rw (← c.index-pools-i.is, ← c.index-pools-i-in-loop-i.is) at c.ge.ensures in
      let before = rw (← first, ← second) at (pairs (c.loop-i.i - 1) c.loop-i.i no_pool (omega arith) c.loop-i-test.true) in
      absurd (not_before c.index-pools-i.result.name c.index-pools-i-in-loop-i.result.name (sym past ∙ c.if-ge.true) before),
)

pub returns : goal.returns
returns c = (λ _. pairs_before (λ (p : ProblemPool). p.name) c.args.pools.now (λ k d below. c.loop-i.invariant k d (omega arith)), λ _. refl)
