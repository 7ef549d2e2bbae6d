use Rattle.amm_cert.proofs.Unique.{one_quote}
use Rattle.amm_cert.proofs.law.certificate_has_one_quote.Goals as goal

pub returns : goal.returns
returns c = one_quote
