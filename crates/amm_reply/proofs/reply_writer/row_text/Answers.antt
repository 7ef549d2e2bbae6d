use Rattle.amm_model.specs.declared.reply.Reply.{Reply}
use Rattle.serde_json.proofs.FreeTexts.{text_of_value}
use Rattle.amm_model.specs.ReplyText.{reply_value}
use Rattle.amm_reply.proofs.Plain.{reply_plain}
use Rattle.amm_reply.proofs.reply_writer.row_text.Goals as goal

pub returns-in-Ok : goal.returns-in-Ok
returns-in-Ok c =
    let reply : Reply = record { line = c.args.line; answer = c.args.answer.now } in
    let sent = c.in-Ok.ensures.events in
    text_of_value (reply_value reply) sent.0 _ sent.1 sent.2 (reply_plain reply)
