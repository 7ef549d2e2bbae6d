use Rattle.std.proofs.Common.{inr, refl}
use Rattle.serde_json.proofs.FreeTexts.{text_of_value}
use Rattle.amm_model.specs.Certificate.{certificate_value, certificate_text}
use Rattle.amm_cert.proofs.PlainQuotes.{certificate_plain}
use Rattle.amm_cert.proofs.Certified.{text_certifies}
use Rattle.amm_cert.proofs.certificate_writer.write.Goals as goal

pub returns-in-Ok-clause-text : goal.returns-in-Ok-clause-text
unfolding certificate_text
returns-in-Ok-clause-text c =
    let sent = c.in-Ok.ensures.events in
    text_of_value (certificate_value c.args.quote.now) sent.0 _ sent.1 sent.2 (certificate_plain c.args.quote.now)

pub returns-in-Ok-clause-certificate : goal.returns-in-Ok-clause-certificate
returns-in-Ok-clause-certificate c =
    let sent = c.in-Ok.ensures.events in
    let is = text_of_value (certificate_value c.args.quote.now) sent.0 _ sent.1 sent.2 (certificate_plain c.args.quote.now) in
    rw is (text_certifies 2 c.args.quote.now (inr refl) c.kept.ensures)
