use Rattle.std.proofs.Common.{◌≡◌, Some, subst}
use Rattle.serde_json.specs.Data.{Data}
use Rattle.serde_json.specs.View.{view}
use Rattle.amm_model.specs.declared.route.Quote.{Quote}
use Rattle.amm_model.specs.declared.fault.Refusal.TheVariants.{BadJson}
use Rattle.amm_model.specs.Certificate.{IsValueOf, IsCertificateOf}
use Rattle.amm_model.specs.Json.{json_value}
use Rattle.amm_model.proofs.Guards.{was_some}
use Rattle.amm_model.proofs.Names.{one_value}
use Rattle.amm_cert.proofs.Whole.{finds-also}
use Rattle.amm_cert.proofs.reader.quote_of.Goals as goal

pub returns : goal.returns
returns c =
    let bytes = c.args.bytes.now in
    let d = view c.in_ok-value.value in
    let text : json_value bytes ≡ Some d = was_some (json_value bytes) BadJson d c.in_ok-value.ensures in
    finds-also (λ (q : Quote). IsValueOf d q) (λ (q : Quote). IsCertificateOf bytes q) c.quote_of_value.result
    (λ q is. record { value = d; text = text; of_quote = is })
    (λ q is. subst (λ (x : Data). IsValueOf x q) (one_value (json_value bytes) is.value d is.text text) is.of_quote)
    c.quote_of_value.ensures
