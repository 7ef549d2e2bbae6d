use Rattle.std.proofs.Common.{◌∙◌}
use Rattle.std.proofs.lemmas.Result.{IfOk-weaker}
use Rattle.exchange.proofs.Working.{counts_run, told_output}
use Rattle.exchange.proofs.worker.counts_line.Goals as goal

pub returns : goal.returns
returns c =
    let told = c.in_ok-replies.ensures in
    let bytes = c.bytes.ensures ∙ told_output _ told.0 _ told.1 in
    let verdicts = c.of-verdicts.ensures in
    let counted = counts_run c.args.seed c.args.count _ _ told.0 _ told.1 (verdicts.accepted told.1.replies bytes) (verdicts.refused told.1.replies bytes) in
    IfOk-weaker c.line.result _ _ (λ line is. (_, _, counted, is)) c.line.ensures
