use Rattle.std.proofs.Common.{◌≡◌, ◌+◌, List, [], ◌∷◌, length, map, subst, arith}
use Rattle.std.specs.Prelude.{codes}
use Rattle.std.proofs.lemmas.List.{length-map}
use Rattle.std.proofs.lemmas.Result.{on_ok_weaker}
use Rattle.serde_json.specs.Data.{Data, string}
use Rattle.amm_model.specs.Json.{whole}
use Rattle.amm_text.specs.Sends.{SendsFront}
use Rattle.amm_text.proofs.Sent.{list_sent, front-more}
use Rattle.amm_reply.proofs.reply_row.accepted.Goals as goal

pub returns : goal.returns
returns g c =
    let numbers = c.args.numbers.now in
    let before : List Data = whole c.args.line ∷ string (codes "ok") ∷ [] in
    let all : List Data = whole c.args.line ∷ string (codes "ok") ∷ map whole numbers in
    let count : 2 + length numbers ≡ length all = omega (arith, length-map numbers whole) in
    let filled = front-more _ before (map whole numbers) _ _ _ c.in_ok-front.ensures c.in_ok-send_numbers.ensures in
    on_ok_weaker c.end_seq.result
    (λ ended. list_sent all _ _ _ (subst (λ n. SendsFront n all (g.S.Serializer.written c.args.out.now) (g.S.Serializer.written c.send_numbers.new.out)) count filled) ended)
    c.end_seq.ensures
