use Rattle.serde_json.proofs.FreeTexts.{text_of_value}
use Rattle.exchange.specs.Work.{work_value}
use Rattle.exchange.proofs.Working.{work_plain}
use Rattle.exchange.proofs.summary.Summary.text.Goals as goal

pub returns-in-Ok : goal.returns-in-Ok
returns-in-Ok c =
    let s = c.args.self in
    let sent = c.in-Ok.ensures.events in
    text_of_value (work_value s.seed s.count s.verdicts.accepted s.verdicts.refused) sent.0 _ sent.1 sent.2 (work_plain s.seed s.count s.verdicts.accepted s.verdicts.refused)
