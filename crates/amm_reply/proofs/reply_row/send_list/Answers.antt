use Rattle.std.proofs.lemmas.Result.{on_ok_weaker}
use Rattle.amm_model.specs.Json.{whole}
use Rattle.amm_text.proofs.Sent.{listed}
use Rattle.amm_reply.proofs.reply_row.send_list.Goals as goal

pub returns : goal.returns
returns g c =
    on_ok_weaker c.end_seq.result
    (λ ended. listed whole c.args.numbers.now _ _ _ _ c.in_ok-begin_seq.ensures c.in_ok-send_numbers.ensures ended)
    c.end_seq.ensures
