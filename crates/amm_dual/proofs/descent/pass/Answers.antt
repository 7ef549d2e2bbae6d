use Rattle.std.proofs.Common.{ap, ◌∙◌, ◌≡◌, true, false, ◌+◌, ◌*◌, length, sym, arith}
use Rattle.amm_model.specs.Routing.{OpenView}
use Rattle.amm_model.specs.Bound.{bound_of}
use Rattle.amm_dual.proofs.Steps.{lower-after, none-more, same-after}
use Rattle.amm_dual.proofs.descent.pass.Goals as goal
use Rattle.amm_dual.proofs.descent.pass.Goals.{then-improve_past, else-improve_past}

pub loop-n-preserved : goal.loop-n-preserved
loop-n-preserved c =
    let first = c.args.running.now in
    let now = c.loop-n.running in
    let next = c.improve_past.new.running in
    let inv = c.loop-n.invariant in
    let count = inv.count ∙ ap (λ (o : OpenView). 64 * (length o.tokens + length o.pools)) (sym c.improve_past.ensures.problem) in
    elim c.if-improve_past.branch [
      | then-improve_past w ↦ record {
        singles = c.improve_past.ensures.singles;
        line = c.improve_past.ensures.line;
        problem = c.improve_past.ensures.problem ∙ inv.problem;
        many = c.improve_past.ensures.many ∙ inv.many;
        unit = c.improve_past.ensures.unit ∙ inv.unit;
        count = count;
        before = w.before-is ∙ w.bound-before-then-improve_past.ensures.value;
        below = omega (arith, w.before-is, w.bound-before-then-improve_past.ensures.below);
        lower = λ h. lower-after c.loop-n.helped first now next _ inv.lower inv.kept inv.problem (c.improve_past.ensures.lower w.if-improve_past.true);
        kept = λ h. absurd (let e : true ≡ false = cc in cc);
      }
      | else-improve_past w ↦ record {
        singles = c.improve_past.ensures.singles;
        line = c.improve_past.ensures.line;
        problem = c.improve_past.ensures.problem ∙ inv.problem;
        many = c.improve_past.ensures.many ∙ inv.many;
        unit = c.improve_past.ensures.unit ∙ inv.unit;
        count = count;
        before = w.before-is ∙ inv.before ∙ ap (λ (o : OpenView). bound_of o now.prices) (sym c.improve_past.ensures.problem) ∙ ap (bound_of next.problem) (sym (c.improve_past.ensures.kept w.if-improve_past.false));
        below = omega (arith, w.before-is, inv.below);
        lower = λ h. same-after first now next (c.improve_past.ensures.kept w.if-improve_past.false) c.improve_past.ensures.problem (inv.lower cc);
        kept = λ h. (
          c.improve_past.ensures.kept w.if-improve_past.false ∙ (inv.kept cc).0,
          none-more now next c.loop-n.n (c.improve_past.ensures.kept w.if-improve_past.false) c.improve_past.ensures.problem (inv.kept cc).1 (c.improve_past.ensures.steady w.if-improve_past.false),
        );
      }
    ]
