use Rattle.std.proofs.Common.{ℕ, arith, ap, ◌∙◌, ◌≡◌, ◌<◌, ◌+◌, length, get_or}
use Rattle.std.proofs.Math.ListN.{length-set}
use Rattle.std.proofs.lemmas.Bool.{leb-true}
use Rattle.amm_model.specs.Bound.{price_of}
use Rattle.amm_model.specs.Routing.{OpenView, token_place}
use Rattle.amm_dual.specs.Running.{after}
use Rattle.amm_dual.proofs.LineLaw.{line-kept}
use Rattle.amm_dual.proofs.lines.rules_out.Goals as goal

pub returns : goal.returns
returns c = λ says.
    let now = c.args.running.now in
    let line = c.requires.line in
    let long : length (after now.prices c.args.changes) ≡ length now.problem.tokens =
    length-set _ c.args.changes.second.place c.args.changes.second.price ∙ length-set now.prices c.args.changes.first.place c.args.changes.first.price ∙ c.problem.ensures.many in
    let place : c.target-target.result ≡ token_place now.problem.tokens now.problem.t = c.target-target.ensures.place ∙ ap (λ (o : OpenView). token_place o.tokens o.t) c.problem.ensures.same in
    let pos : 0 < price_of now.problem.tokens now.prices now.problem.t = omega (arith, c.price-unit.ensures.range.0, c.price-unit.ensures.value, ap (λ (n : ℕ). get_or now.prices n 0) place) in
    line-kept now.problem now.prices (after now.prices c.args.changes) c.args.given.now c.args.taken.now c.value_after-above.result c.value_after-below.result c.args.line.need line.flows long c.requires.unit
    pos line.need c.value_after-above.ensures.value c.value_after-below.ensures.value c.value_after-above.ensures.below (leb-true (c.value_after-below.result + c.args.line.need) c.value_after-above.result says)
