use Rattle.amm_check.proofs.Judging.{answer_right}
use Rattle.amm_check.proofs.law.answer_has_a_yes.Goals as goal

pub returns : goal.returns
returns c = answer_right
