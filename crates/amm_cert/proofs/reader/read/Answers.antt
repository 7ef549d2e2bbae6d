use Rattle.std.proofs.Common.{◌≡◌, Some, ap, subst}
use Rattle.amm_model.specs.declared.route.Quote.{Quote}
use Rattle.amm_model.specs.Certificate.{IsCertificateOf}
use Rattle.amm_cert.proofs.Unique.{one_quote}
use Rattle.amm_cert.proofs.reader.read.Goals as goal

pub returns-in-Ok : goal.returns-in-Ok
returns-in-Ok c = λ q. (
  λ e. let same : c.in-Ok.quote ≡ q = cc in subst (λ (x : Quote). IsCertificateOf c.args.bytes.now x) same c.in-Ok.ensures,
  λ is. ap Some (one_quote c.args.bytes.now c.in-Ok.quote q c.in-Ok.ensures is),
)

pub returns-in-Err-Refused : goal.returns-in-Err-Refused
returns-in-Err-Refused c = λ q. (λ e. cc, λ is. let none = rw c.in-Err-Refused.field-0-is at c.in-Err-Refused.ensures in absurd (none q is))
