use Rattle.std.proofs.lemmas.Result.{on_ok_weaker}
use Rattle.amm_model.proofs.Fitting.{reads_fitting}
use Rattle.amm_engine.proofs.Steps.{AnswersLine-asked, AnswersLine-unread}
use Rattle.amm_engine.proofs.engine.Engine.answer_whole.Goals as goal

pub answer_command-requires : goal.answer_command-requires
answer_command-requires c = record { fits = reads_fitting _ _ c.in-Ok.ensures }

pub returns-in-Ok-clause-ok : goal.returns-in-Ok-clause-ok
returns-in-Ok-clause-ok c = on_ok_weaker _ (λ a. AnswersLine-asked _ _ _ _ _ _ c.requires.rest c.in-Ok.ensures a) c.answer_command.ensures.ok

pub returns-in-Err-Refused-clause-ok : goal.returns-in-Err-Refused-clause-ok
returns-in-Err-Refused-clause-ok c =
    let fails = rw c.in-Err-Refused.field-0-is at c.in-Err-Refused.ensures in
    let written = rw c.in-Err-Refused.why-is at c.write_reply.ensures in
    on_ok_weaker _ (λ is. AnswersLine-unread _ _ _ _ _ c.requires.rest fails is) written
