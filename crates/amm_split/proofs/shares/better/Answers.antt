use Rattle.amm_split.proofs.Choices.{skipped}
use Rattle.amm_split.proofs.shares.better.Goals as goal

pub returns-then-not-is_free : goal.returns-then-not-is_free
returns-then-not-is_free c = skipped c.args.terms.now c.args.left c.args.used.now c.args.paths.now c.args.rows.now c.args.i c.args.best c.requires.best
    (λ free. let says = c.if-not-is_free.ensures.1 free in cc)
