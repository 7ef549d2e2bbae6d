use Rattle.amm_names.proofs.Padding.{IsPadded-empty}
use Rattle.amm_names.proofs.name.text.Text.empty.Goals as goal

pub invariant_of-result : goal.invariant_of-result
invariant_of-result g c = IsPadded-empty g.row.N
