use Rattle.amm_command.proofs.Names.{holder_text_so_if}
use Rattle.amm_command.proofs.plain.part.holder.Goals as goal

pub returns-in-Ok-clause-text : goal.returns-in-Ok-clause-text
returns-in-Ok-clause-text c = holder_text_so_if c.in_ok-name.name.now c.in-Ok.holder _ _ c.in-Ok.ensures c.in_ok-name.ensures
