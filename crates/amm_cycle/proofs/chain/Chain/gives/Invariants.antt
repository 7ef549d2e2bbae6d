use Rattle.std.proofs.Common.{◌≡◌, ◌<◌, ◌^◌, take}
use Rattle.amm_model.specs.Paths.{gives}
use Rattle.amm_cycle.proofs.chain.Chain.gives.Given as goal

abbrev pub invariant-loop-k : goal.invariant-loop-k
invariant-loop-k l = record {
  value : l.amount ≡ gives l.problem.pools (take l.k l.self.hops) l.x;
  below : l.amount < 2 ^ 52;
}
