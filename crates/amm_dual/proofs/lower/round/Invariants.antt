use Rattle.std.proofs.Common.{◌≡◌, length}
use Rattle.amm_model.specs.Bound.{price_of}
use Rattle.amm_dual.proofs.lower.round.Given as goal

abbrev pub invariant-loop-place : goal.invariant-loop-place
invariant-loop-place l = record {
  problem : l.running.problem ≡ l.fn.running.problem;
  many : length l.running.prices ≡ length l.fn.running.prices;
  unit : price_of l.running.problem.tokens l.running.prices l.running.problem.t ≡ price_of l.fn.running.problem.tokens l.fn.running.prices l.fn.running.problem.t;
  count : l.count ≡ length l.fn.running.prices;
}
