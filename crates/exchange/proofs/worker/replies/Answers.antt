use Rattle.std.proofs.Common.{◌∙◌, [], Some, ap}
use Rattle.amm_work.specs.Commands.{work_bytes}
use Rattle.exchange.proofs.Statuses.{RepliesToAll-done}
use Rattle.exchange.proofs.worker.replies.Goals as goal

pub returns-in-Done : goal.returns-in-Done
returns-in-Done c =
    let bytes = c.new-source.ensures ∙ c.in_ok-make.ensures in
    (_, RepliesToAll-done _ (work_bytes c.args.seed c.args.count) [] _ _ _ _ (ap (λ l. Some l) bytes) (ap (λ l. Some l) c.new-replies.ensures) (c.run.ensures.done c.in-Done.is))
