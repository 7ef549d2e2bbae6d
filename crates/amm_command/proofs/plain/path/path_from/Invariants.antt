use Rattle.amm_command.specs.Front.{ahead}
use Rattle.amm_command.proofs.Paths.{SoFar}
use Rattle.amm_command.proofs.plain.path.path_from.Given as goal

abbrev pub invariant-hops : goal.invariant-hops
invariant-hops l = SoFar l.fn.first (ahead l.initial.line) (ahead l.line) l.tokens.items l.fees.items
