use Rattle.std.proofs.Common.{arith}
use Rattle.amm_split.proofs.Taken.{ends-of}
use Rattle.amm_split.proofs.source.source_amount.Goals as goal

pub returns-clause-below : goal.returns-clause-below
returns-clause-below c = omega (arith, c.d.ensures.value, (c.d.ensures.sound.parts.amounts 0 (record { token = c.args.problem.now.s; amount = c.args.problem.now.d }) (omega arith)).1)

pub returns-clause-apart : goal.returns-clause-apart
returns-clause-apart c = ends-of c.args.problem.now c.d.ensures.sound
