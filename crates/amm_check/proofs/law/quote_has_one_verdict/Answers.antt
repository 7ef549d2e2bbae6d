use Rattle.amm_check.proofs.Judging.{one_verdict}
use Rattle.amm_check.proofs.law.quote_has_one_verdict.Goals as goal

pub returns : goal.returns
returns c = one_verdict
