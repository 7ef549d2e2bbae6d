use Rattle.std.proofs.Common.{refl, sym, ◌∙◌}
use Rattle.amm_command.proofs.Baskets.{lead-none, lead-next, lead-last}
use Rattle.amm_command.proofs.plain.parts.some_parts.Goals as goal

pub parts-init : goal.parts-init
parts-init c = rw c.in_ok-found.ensures.items (lead-none _)

pub returns-then-close : goal.returns-then-close
returns-then-close c =
    rw c.in_ok-push.ensures.items (lead-last _ _ _ _ _ c.in-Some.part c.parts.invariant c.in-Some.ensures.text c.in-Some.ensures.fits c.in-Some.ensures.plain c.if-close.ensures.closed)

pub parts-preserved : goal.parts-preserved
parts-preserved c =
    rw c.in_ok-push.ensures.items
    (lead-next _ _ _ _ _ c.in-Some.part c.parts.invariant c.in-Some.ensures.text c.in-Some.ensures.fits c.in-Some.ensures.plain (sym (c.if-close.ensures.kept refl) ∙ c.if-not-comma.ensures))
