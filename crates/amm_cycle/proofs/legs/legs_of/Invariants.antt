use Rattle.std.proofs.Common.{◌≡◌, ◌<◌, ◌^◌, take}
use Rattle.amm_model.specs.Paths.{gives, legs_along}
use Rattle.amm_cycle.proofs.legs.legs_of.Given as goal

abbrev pub invariant-loop-k : goal.invariant-loop-k
invariant-loop-k l = record {
  legs : l.legs.items ≡ legs_along l.problem.pools (take l.k l.chain.hops) l.x;
  value : l.input ≡ gives l.problem.pools (take l.k l.chain.hops) l.x;
  below : l.input < 2 ^ 52;
}
