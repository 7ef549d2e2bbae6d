use Rattle.amm_cert.proofs.Certified.{answer_certifies}
use Rattle.amm_cert.proofs.law.answer_has_certificate.Goals as goal

pub returns : goal.returns
returns c = answer_certifies
