use Rattle.std.proofs.Common.{◌≡◌, ◌<◌, ◌+◌, ◌*◌, ◌^◌, length, true, false}
use Rattle.amm_model.specs.Bound.{bound_of, price_of}
use Rattle.amm_dual.specs.Flows.{IsLine}
use Rattle.amm_dual.specs.Moves.{NoHelpBelow}
use Rattle.amm_dual.specs.Singles.{AreSingles}
use Rattle.amm_dual.proofs.descent.pass.Given as goal

abbrev pub invariant-loop-n : goal.invariant-loop-n
invariant-loop-n l = record {
  singles : AreSingles l.running.problem l.running.prices l.singles;
  line : IsLine l.running.problem l.running.prices l.given l.taken l.line;
  problem : l.running.problem ≡ l.fn.running.problem;
  many : length l.running.prices ≡ length l.fn.running.prices;
  unit : price_of l.running.problem.tokens l.running.prices l.running.problem.t ≡ price_of l.fn.running.problem.tokens l.fn.running.prices l.fn.running.problem.t;
  count : l.count ≡ 64 * (length l.running.problem.tokens + length l.running.problem.pools);
  before : l.before ≡ bound_of l.running.problem l.running.prices;
  below : l.before < 2 ^ 108;
  lower : l.helped ≡ true → bound_of l.running.problem l.running.prices < bound_of l.fn.running.problem l.fn.running.prices;
  kept : l.helped ≡ false → (l.running.prices ≡ l.fn.running.prices) × NoHelpBelow l.running.problem l.running.prices l.n;
}
