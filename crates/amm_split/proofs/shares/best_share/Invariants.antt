use Rattle.amm_split.specs.Shares.{IsBest}
use Rattle.amm_split.proofs.shares.best_share.Given as goal

abbrev pub invariant-loop-i : goal.invariant-loop-i
invariant-loop-i l = IsBest l.terms l.left l.used l.paths l.rows l.i l.best
