use Rattle.std.proofs.Common.{◌≡◌, length}
use Rattle.amm_model.specs.Bound.{price_of}
use Rattle.amm_dual.proofs.lower.lower_prices.Given as goal

abbrev pub invariant-loop : goal.invariant-loop
invariant-loop l = record {
  problem : l.running.problem ≡ l.fn.running.problem;
  many : length l.running.prices ≡ length l.fn.running.prices;
  unit : price_of l.running.problem.tokens l.running.prices l.running.problem.t ≡ price_of l.fn.running.problem.tokens l.fn.running.prices l.fn.running.problem.t;
}
