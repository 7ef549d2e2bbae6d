use Rattle.std.proofs.Common.{List, [], ◌∷◌, refl}
use Rattle.std.specs.Prelude.{codes}
use Rattle.std.proofs.lemmas.Result.{on_ok_weaker}
use Rattle.serde_json.specs.Data.{Data, string}
use Rattle.amm_model.specs.Json.{whole}
use Rattle.amm_model.specs.Certificate.{certificate_value}
use Rattle.amm_text.specs.Sends.{SendsEach}
use Rattle.amm_text.proofs.Sent.{list_sent, front-more}
use Rattle.amm_reply.proofs.reply_row.certificate.Goals as goal

pub returns : goal.returns
returns g c =
    let before : List Data = whole c.args.line ∷ string (codes "ok") ∷ [] in
    let behind : List Data = certificate_value c.args.quote.now ∷ [] in
    let all : List Data = whole c.args.line ∷ string (codes "ok") ∷ certificate_value c.args.quote.now ∷ [] in
    let more : SendsEach behind (g.S.Serializer.written c.front.new.out) (g.S.Serializer.written c.send_certificate.new.out) = (_, c.in_ok-send_certificate.ensures, refl) in
    on_ok_weaker c.end_seq.result (λ ended. list_sent all _ _ _ (front-more 3 before behind _ _ _ c.in_ok-front.ensures more) ended) c.end_seq.ensures
