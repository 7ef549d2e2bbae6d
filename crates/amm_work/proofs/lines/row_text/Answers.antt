use Rattle.serde_json.proofs.FreeTexts.{text_of_value}
use Rattle.amm_command.specs.Rows.{row_value}
use Rattle.amm_work.specs.Commands.{command_of}
use Rattle.amm_work.proofs.Plain.{line_plain}
use Rattle.amm_work.proofs.lines.row_text.Goals as goal

pub returns-in-Ok : goal.returns-in-Ok
returns-in-Ok c =
    let sent = c.in-Ok.ensures.events in
    text_of_value (row_value (command_of c.args.line)) sent.0 _ sent.1 sent.2 (line_plain c.args.line)
