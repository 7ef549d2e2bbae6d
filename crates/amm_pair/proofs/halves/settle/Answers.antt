use Rattle.std.proofs.Common.{arith}
use Rattle.amm_pair.proofs.halves.settle.Goals as goal

pub admits-requires-clause-reserves : goal.admits-requires-clause-reserves
admits-requires-clause-reserves c = let small = c.requires.small in (omega (arith, small.r0), omega (arith, small.r1))
