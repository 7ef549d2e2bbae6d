use Rattle.amm_cert.proofs.Certified.{text_certifies, written_certifies}
use Rattle.amm_cert.proofs.law.text_is_certificate.Goals as goal

pub returns : goal.returns
returns c = record { text = written_certifies; versions = text_certifies }
