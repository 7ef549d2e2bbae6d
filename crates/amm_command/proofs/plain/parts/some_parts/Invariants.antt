use Rattle.amm_command.specs.Front.{ahead}
use Rattle.amm_command.specs.Baskets.{PartsLead}
use Rattle.amm_command.proofs.plain.parts.some_parts.Given as goal

abbrev pub invariant-parts : goal.invariant-parts
invariant-parts l = PartsLead (ahead l.initial.line) (ahead l.line) l.found.items
