use Rattle.std.proofs.Common.{take}
use Rattle.std.specs.Prelude.{All}
use Rattle.amm_cycle.specs.Chains.{IsApart}
use Rattle.amm_cycle.proofs.chain.Chain.is_apart.Given as goal

abbrev pub invariant-loop-k : goal.invariant-loop-k
invariant-loop-k l = All (IsApart l.problem.pools l.hop) (take l.k l.self.hops)
