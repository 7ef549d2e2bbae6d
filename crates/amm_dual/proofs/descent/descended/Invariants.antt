use Rattle.std.proofs.Common.{◌≡◌, ◌^◌, length}
use Rattle.amm_model.specs.Bound.{bound_of, price_of}
use Rattle.amm_dual.specs.Singles.{AreSingles}
use Rattle.amm_dual.proofs.descent.descended.Given as goal

abbrev pub invariant-loop-singles : goal.invariant-loop-singles
invariant-loop-singles l = record {
  singles : AreSingles l.running.problem l.running.prices l.singles;
  given : length l.given ≡ length l.running.problem.tokens;
  taken : length l.taken ≡ length l.running.problem.tokens;
  problem : l.running.problem ≡ l.problem;
  many : length l.running.prices ≡ length l.problem.tokens;
  unit : price_of l.running.problem.tokens l.running.prices l.running.problem.t ≡ 2 ^ 20;
}

abbrev pub decreases-loop-singles : goal.decreases-loop-singles
decreases-loop-singles l = bound_of l.running.problem l.running.prices
