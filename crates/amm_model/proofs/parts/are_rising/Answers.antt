use Rattle.std.proofs.Common.{◌-◌, arith, length, sym, refl, ◌∙◌}
use Rattle.std.proofs.lemmas.List.{get_or_read_under}
use Rattle.amm_model.specs.declared.problem.Part.{Part}
use Rattle.amm_model.proofs.Problems.{no_part, not_before, pairs_before}
use Rattle.amm_model.proofs.parts.are_rising.Goals as goal

pub returns-then-ge : goal.returns-then-ge
returns-then-ge c = (
  λ says. absurd cc,
  λ pairs.
      let parts = c.args.parts.now in
      let first = get_or_read_under parts (c.loop-i.i - 1) (length parts) c.index-parts-i.result no_part c.index-parts-i.is (omega arith) refl in
      let second = get_or_read_under parts c.loop-i.i (length parts) c.index-parts-i-in-loop-i.result no_part c.index-parts-i-in-loop-i.is c.loop-i-test.true refl in
      let past = rw (← c.index-parts-i.is, ← c.index-parts-i-in-loop-i.is) at c.ge.ensures in
      let before = rw (← first, ← second) at (pairs (c.loop-i.i - 1) c.loop-i.i no_part (omega arith) c.loop-i-test.true) in
      absurd (not_before c.index-parts-i.result.token c.index-parts-i-in-loop-i.result.token (sym past ∙ c.if-ge.true) before),
)

pub returns : goal.returns
returns c = (λ _. pairs_before (λ (p : Part). p.token) c.args.parts.now (λ k d below. c.loop-i.invariant k d (omega arith)), λ _. refl)
