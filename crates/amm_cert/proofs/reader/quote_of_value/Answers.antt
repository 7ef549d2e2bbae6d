use Rattle.std.proofs.Common.{map, subst, sym}
use Rattle.serde_json.specs.Data.{Data}
use Rattle.serde_json.specs.View.{view}
use Rattle.amm_model.specs.declared.route.Quote.{Quote}
use Rattle.amm_model.specs.Certificate.{IsValueOf}
use Rattle.amm_cert.specs.Finds.{Finds}
use Rattle.amm_cert.proofs.Forms.{list-is}
use Rattle.amm_cert.proofs.reader.quote_of_value.Goals as goal

pub returns : goal.returns
returns c =
    let P : Data → Type 0 = λ d. Finds {X = Quote} (λ q. IsValueOf d q) c.quote_of_list.result in
    subst P (sym (list-is (view c.args.value.now) (map view c.in_ok-values.values.now) c.in_ok-values.ensures)) c.quote_of_list.ensures
