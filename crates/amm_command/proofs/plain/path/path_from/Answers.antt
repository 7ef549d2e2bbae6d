use Rattle.std.proofs.Common.{◌≡◌, refl, sym, ◌∙◌}
use Rattle.amm_command.proofs.Paths.{hop_so, so_far-next, so_far-text, so_far-along, so_far-plain, so_far-flat}
use Rattle.amm_command.proofs.plain.path.path_from.Goals as goal

pub hops-preserved : goal.hops-preserved
hops-preserved c =
    rw (c.in_ok-push-3.ensures.items, c.in_ok-push-2.ensures.items)
    (so_far-next c.args.first _ _ _ _ _ c.in-Some-token.token c.in-Some.fee c.hops.invariant
    (hop_so c.in-Some.fee c.in-Some-token.token _ _ _ (sym (c.if-close.ensures.kept refl) ∙ c.in-Some.ensures.text) c.in-Some-token.ensures.text) c.in-Some.ensures.fits c.in-Some-token.ensures.fits)

pub returns-then-close-clause-text : goal.returns-then-close-clause-text
returns-then-close-clause-text c =
    rw (c.from_vec.ensures, c.from_vec-then-close.ensures) (so_far-text c.args.first _ _ _ _ _ c.hops.invariant c.if-close.ensures.closed)

pub returns-then-close-clause-along : goal.returns-then-close-clause-along
returns-then-close-clause-along c =
    rw (c.from_vec.ensures, c.from_vec-then-close.ensures) (so_far-along c.args.first _ _ _ _ c.hops.invariant c.requires)

pub returns-then-close-clause-plain : goal.returns-then-close-clause-plain
returns-then-close-clause-plain c =
    rw (c.from_vec.ensures, c.from_vec-then-close.ensures) (so_far-plain c.args.first _ _ _ _ c.hops.invariant)

pub returns-then-close-clause-flat : goal.returns-then-close-clause-flat
returns-then-close-clause-flat c =
    rw (c.from_vec.ensures, c.from_vec-then-close.ensures) (so_far-flat c.args.first _ _ _ _ c.hops.invariant)
