use Rattle.std.proofs.Common.{◌≡◌}
use Rattle.amm_model.specs.Bound.{bound_of}
use Rattle.amm_dual.specs.Moves.{NoHelpBelow}
use Rattle.amm_dual.specs.Singles.{AreSingles}
use Rattle.amm_dual.proofs.descent.open_settled.Given as goal

abbrev pub invariant-loop-n : goal.invariant-loop-n
invariant-loop-n l = record {
  singles : AreSingles l.running.problem l.running.prices l.singles;
  problem : l.running.problem ≡ l.problem;
  prices : l.running.prices ≡ l.prices;
  before : l.before ≡ bound_of l.problem l.prices;
  none : NoHelpBelow l.problem l.prices l.n;
}
