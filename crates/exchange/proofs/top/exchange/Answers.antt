use Rattle.std.proofs.Common.{◌≡◌, ◌⊎◌, refl}
use Rattle.exchange.proofs.Findings.{judges}
use Rattle.exchange.proofs.Statuses.{RepliesToAll-done, TakesWithin-status, completes}
use Rattle.exchange.proofs.Texts.{TextsAsk-work}
use Rattle.exchange.specs.Work.{CutsCounts, TellsCounts}
use Rattle.exchange.specs.declared.words.Request.TheVariants.{Run, Check, Work}
use Rattle.exchange.proofs.top.exchange.Goals as goal

pub returns-in-Some-Run-clause-replies : goal.returns-in-Some-Run-clause-replies
returns-in-Some-Run-clause-replies g c = λ run input before left written is. RepliesToAll-done _ _ _ _ _ _ _ left written (c.run.ensures.done is)

pub returns-in-Some-Run-clause-limit : goal.returns-in-Some-Run-clause-limit
returns-in-Some-Run-clause-limit g c = λ run.
    let e = c.run.ensures in
    TakesWithin-status _ _ _ _ _ _ _ e.done e.ended e.passed e.broken e.memory e.never

pub returns-in-Some-Run-clause-complete : goal.returns-in-Some-Run-clause-complete
returns-in-Some-Run-clause-complete g c = λ run calm quiet told.
    let e = c.run.ensures in
    completes _ told.0 _ _ _ _ _ _ _ _ _ _ told.1 told.2 e.read_fault e.write_fault e.passed e.never calm quiet

pub returns-in-Some-Check-clause-check_complete : goal.returns-in-Some-Check-clause-check_complete
returns-in-Some-Check-clause-check_complete g c = λ check calm quiet told.
    let e = c.check.ensures in
    judges _ told.0 _ _ _ _ _ _ _ told.1 told.2 e.read_fault e.write_fault e.passed e.never calm quiet

pub returns-in-None-clause-usage : goal.returns-in-None-clause-usage
returns-in-None-clause-usage g c = (λ _. c.in-None.ensures.none, λ _. refl)

pub returns-in-None-clause-complete : goal.returns-in-None-clause-complete
returns-in-None-clause-complete g c = λ run calm quiet told. absurd (c.in-None.ensures.none Run run)

pub returns-in-None-clause-check_complete : goal.returns-in-None-clause-check_complete
returns-in-None-clause-check_complete g c = λ check calm quiet told. absurd (c.in-None.ensures.none Check check)

pub returns-in-Some-Work-clause-counts : goal.returns-in-Some-Work-clause-counts
returns-in-Some-Work-clause-counts g c = λ number count asks is.
    let found = rw c.in-Some-Work.field-0-is at c.in-Some-Work.ensures.found in
    let written = g.K.Sink.written in
    TextsAsk-work _ _ _ (λ n k. TellsCounts n k (written c.args.sink.now) (written c.work.new.sink)) found (c.work.ensures.tells is) number count asks

pub returns-in-Some-Work-clause-counts_cut : goal.returns-in-Some-Work-clause-counts_cut
returns-in-Some-Work-clause-counts_cut g c = λ number count asks is.
    let found = rw c.in-Some-Work.field-0-is at c.in-Some-Work.ensures.found in
    let written = g.K.Sink.written in
    TextsAsk-work _ _ _ (λ n k. CutsCounts n k (written c.args.sink.now) (written c.work.new.sink)) found (c.work.ensures.cut is) number count asks

pub returns-in-Some-Work-clause-work_memory : goal.returns-in-Some-Work-clause-work_memory
returns-in-Some-Work-clause-work_memory g c = λ number count asks is.
    let found = rw c.in-Some-Work.field-0-is at c.in-Some-Work.ensures.found in
    let written = g.K.Sink.written in
    TextsAsk-work _ _ _ (λ n k. (c.work.new.sink ≡ c.args.sink.now) ⊎ CutsCounts n k (written c.args.sink.now) (written c.work.new.sink))
    found (c.work.ensures.memory is) number count asks

pub returns-in-None-clause-work_answers : goal.returns-in-None-clause-work_answers
returns-in-None-clause-work_answers g c = λ number count asks. absurd (c.in-None.ensures.none (Work number count) asks)

pub returns-in-None-clause-work_complete : goal.returns-in-None-clause-work_complete
returns-in-None-clause-work_complete g c = λ number count asks quiet. absurd (c.in-None.ensures.none (Work number count) asks)
