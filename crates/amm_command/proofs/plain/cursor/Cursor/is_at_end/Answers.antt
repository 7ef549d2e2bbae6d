use Rattle.amm_command.proofs.Fronts.{at_end}
use Rattle.amm_command.proofs.plain.cursor.Cursor.is_at_end.Goals as goal

pub returns : goal.returns
returns c = at_end _ _ c.are_blank.ensures
