use Rattle.std.proofs.Common.{List, [], ◌∷◌, ◌++◌, refl}
use Rattle.std.specs.Prelude.{codes}
use Rattle.std.proofs.lemmas.Result.{on_ok_weaker}
use Rattle.serde_json.specs.Data.{Data, string}
use Rattle.amm_model.specs.Json.{whole, wide}
use Rattle.amm_text.specs.Sends.{SendsEach}
use Rattle.amm_text.proofs.Sent.{list_sent, front-more}
use Rattle.amm_reply.proofs.reply_row.window.Goals as goal

pub returns : goal.returns
returns g c =
    let before : List Data = whole c.args.line ∷ string (codes "ok") ∷ [] in
    let behind : List Data = whole c.args.found.now.first ∷ whole c.args.found.now.second ∷ wide c.args.found.now.averages.price0 ∷ wide c.args.found.now.averages.price1 ∷ [] in
    let more : SendsEach behind (g.S.Serializer.written c.front.new.out) (g.S.Serializer.written c.send_wide-2.new.out) = (_, c.in_ok-u64.ensures, (_, c.in_ok-u64-2.ensures, (_, c.in_ok-send_wide.ensures, (_, c.in_ok-send_wide-2.ensures, refl)))) in
    on_ok_weaker c.end_seq.result (λ ended. list_sent (before ++ behind) _ _ _ (front-more 6 before behind _ _ _ c.in_ok-front.ensures more) ended) c.end_seq.ensures
