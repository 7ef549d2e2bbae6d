use Rattle.std.proofs.Common.{sym, ◌∙◌, ap}
use Rattle.std.specs.Ordering.{is_lt}
use Rattle.amm_names.proofs.Between.{turned, below, level, above}
use Rattle.amm_names.proofs.name.pool.PoolName.of.Goals as goal
use Rattle.amm_names.proofs.name.pool.PoolName.of.Goals.{in-Less, in-Equal, in-Greater}

pub spell-requires-in-Greater-clause-ascending : goal.spell-requires-in-Greater-clause-ascending
spell-requires-in-Greater-clause-ascending c = ap is_lt (turned c.args.a.now c.args.b.now c.args.fee (sym c.cmp.ensures ∙ c.in-Greater.is))

pub returns : goal.returns
returns c = elim c.match-cmp.branch [
  | in-Less w ↦ rw (w.result-is, w.spell.ensures) (sym (below c.args.a.now c.args.b.now c.args.fee (sym c.cmp.ensures ∙ w.in-Less.is)))
  | in-Equal w ↦ rw w.result-is (sym (level c.args.a.now c.args.b.now c.args.fee (sym c.cmp.ensures ∙ w.in-Equal.is)))
  | in-Greater w ↦ rw (w.result-is, w.spell-in-Greater.ensures) (sym (above c.args.a.now c.args.b.now c.args.fee (sym c.cmp.ensures ∙ w.in-Greater.is)))
]
