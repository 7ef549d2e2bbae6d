use Rattle.std.proofs.Common.{◌≡◌, length}
use Rattle.amm_model.specs.Routing.{ArePrices}
use Rattle.amm_dual.proofs.plan.prices_of.Given as goal

abbrev pub invariant-loop-k : goal.invariant-loop-k
invariant-loop-k l = record {
  many : length l.list.items ≡ l.k;
  ranges : ArePrices l.list.items;
}
