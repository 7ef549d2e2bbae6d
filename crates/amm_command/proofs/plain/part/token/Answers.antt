use Rattle.amm_command.proofs.Names.{token_text_if}
use Rattle.amm_command.proofs.plain.part.token.Goals as goal

pub returns-in-Ok-clause-text : goal.returns-in-Ok-clause-text
returns-in-Ok-clause-text c = token_text_if c.in_ok-name.name.now c.in-Ok.name _ _ c.in-Ok.ensures c.in_ok-name.ensures
