use Rattle.std.proofs.Common.{List, [], ◌∷◌, ◌++◌, refl, subst}
use Rattle.std.specs.Prelude.{codes}
use Rattle.std.proofs.lemmas.Result.{on_ok_weaker}
use Rattle.serde_json.specs.Data.{Data, string}
use Rattle.serde_json.specs.Events.{SendsValue}
use Rattle.amm_model.specs.declared.problem.ProblemPool.{ProblemPool}
use Rattle.amm_model.specs.declared.route.Leg.{Leg}
use Rattle.amm_model.specs.Certificate.{route_value}
use Rattle.amm_model.specs.Json.{whole}
use Rattle.amm_model.specs.ReplyText.{open_quote_values}
use Rattle.amm_text.specs.Sends.{SendsEach}
use Rattle.amm_text.proofs.Sent.{list_sent, front-more}
use Rattle.amm_reply.proofs.reply_row.open_quote.Goals as goal

pub returns : goal.returns
returns g c =
    let before : List Data = whole c.args.line ∷ string (codes "ok") ∷ [] in
    let behind : List Data = open_quote_values c.args.quote.now in
    let prices = rw (c.tokens.ensures.list, c.as_slice.ensures.list) at c.in_ok-send_priced.ensures in
    let over : SendsValue (route_value c.args.quote.now.problem.pools c.as_slice-2.result.now) (g.S.Serializer.written c.send_priced.new.out) (g.S.Serializer.written c.send_route.new.out) =
    subst (λ (pools : List ProblemPool). SendsValue (route_value pools c.as_slice-2.result.now) (g.S.Serializer.written c.send_priced.new.out) (g.S.Serializer.written c.send_route.new.out))
    c.pools.ensures.list c.in_ok-send_route.ensures in
    let legs : SendsValue (route_value c.args.quote.now.problem.pools c.args.quote.now.route.legs) (g.S.Serializer.written c.send_priced.new.out) (g.S.Serializer.written c.send_route.new.out) =
    subst (λ (legs : List Leg). SendsValue (route_value c.args.quote.now.problem.pools legs) (g.S.Serializer.written c.send_priced.new.out) (g.S.Serializer.written c.send_route.new.out))
    c.as_slice-2.ensures over in
    let more : SendsEach behind (g.S.Serializer.written c.front.new.out) (g.S.Serializer.written c.send_route.new.out) = (_, c.in_ok-u64.ensures, (_, c.in_ok-send_wide.ensures, (_, prices, (_, legs, refl)))) in
    on_ok_weaker c.end_seq.result (λ ended. list_sent (before ++ behind) _ _ _ (front-more 6 before behind _ _ _ c.in_ok-front.ensures more) ended) c.end_seq.ensures
