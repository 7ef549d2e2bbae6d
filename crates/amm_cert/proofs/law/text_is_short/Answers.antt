use Rattle.amm_cert.proofs.Sizes.{written_short}
use Rattle.amm_cert.proofs.law.text_is_short.Goals as goal

pub returns : goal.returns
returns c = written_short
