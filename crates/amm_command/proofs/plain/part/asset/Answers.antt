use Rattle.amm_command.proofs.Names.{asset_text_so_if}
use Rattle.amm_command.proofs.plain.part.asset.Goals as goal

pub returns-in-Ok-clause-text : goal.returns-in-Ok-clause-text
returns-in-Ok-clause-text c = asset_text_so_if c.in_ok-name.name.now c.in-Ok.asset _ _ c.in-Ok.ensures c.in_ok-name.ensures
