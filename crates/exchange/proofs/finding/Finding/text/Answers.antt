use Rattle.serde_json.proofs.FreeTexts.{text_of_value}
use Rattle.exchange.specs.Findings.{finding_value}
use Rattle.exchange.proofs.Lines.{finding_plain}
use Rattle.exchange.proofs.finding.Finding.text.Goals as goal

pub returns-in-Ok : goal.returns-in-Ok
returns-in-Ok c =
    let sent = c.in-Ok.ensures.events in
    text_of_value (finding_value c.args.self) sent.0 _ sent.1 sent.2 (finding_plain c.args.self)
