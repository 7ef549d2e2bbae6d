use Rattle.amm_model.specs.CommandView.{move_of_step}
use Rattle.amm_model.specs.CycleRuns.{IsCycleGain}
use Rattle.amm_model.specs.Ledger.{Ledger}
use Rattle.amm_loans.proofs.Cycled.{QuoteDone, quote_gains}
use Rattle.amm_loans.proofs.Fitting.{cycle_fits, cycle_some, cycle_there, problem_pools}
use Rattle.amm_loans.proofs.Meeting.{accepted, failed, ledger_of, no_code, runs}
use Rattle.amm_loans.proofs.cycle.run_cycle.Goals as goal

pub as_step-requires-clause-some : goal.as_step-requires-clause-some
as_step-requires-clause-some c =
    let quote = c.args.quote.now in
    rw c.as_slice-legs.ensures (cycle_some quote.problem.pools quote.problem.t quote.route.legs quote.delivered c.requires.cycle)

pub as_step-requires-clause-there : goal.as_step-requires-clause-there
as_step-requires-clause-there c =
    let quote = c.args.quote.now in
    rw (c.pools-pools.ensures.list, c.as_slice-legs.ensures) (cycle_there quote.problem.pools quote.problem.t quote.route.legs quote.delivered c.requires.cycle)

pub run_step-requires-clause-fits : goal.run_step-requires-clause-fits
run_step-requires-clause-fits c =
    let quote = c.args.quote.now in
    cycle_fits quote.problem.pools (problem_pools quote.problem c.pools-pools.ensures.sound) c.args.actor.now quote.problem.t quote.route.legs quote.delivered c.requires.cycle (move_of_step c.in-Ok.step)
    (rw (c.pools-pools.ensures.list, c.as_slice-legs.ensures) at c.in-Ok.ensures)

pub returns-in-Ok-run_step-clause-meets : goal.returns-in-Ok-run_step-clause-meets
returns-in-Ok-run_step-clause-meets c =
    let quote = c.args.quote.now in
    accepted c.args.tx.now c.run_step.new.tx c.args.actor.now quote.problem.pools quote.route.legs (move_of_step c.in-Ok.step) c.in-Ok-run_step.field-0
    (rw (c.pools-pools.ensures.list, c.as_slice-legs.ensures) at c.in-Ok.ensures) c.in-Ok-run_step.ensures.meets

pub returns-in-Ok-run_step-clause-runs : goal.returns-in-Ok-run_step-clause-runs
returns-in-Ok-run_step-clause-runs c =
    let quote = c.args.quote.now in
    let is = rw (c.pools-pools.ensures.list, c.as_slice-legs.ensures) at c.in-Ok.ensures in
    let done : QuoteDone c.args.tx.now.present c.args.actor.now c.args.quote.now =
    quote_gains c.args.tx.now.present c.args.actor.now quote c.requires.sound (problem_pools quote.problem c.pools-pools.ensures.sound) c.requires.cycle c.requires.ready in
    runs c.args.tx.now c.run_step.new.tx c.args.actor.now quote.problem.pools quote.route.legs (move_of_step c.in-Ok.step) c.in-Ok-run_step.field-0 done.made is (done.is (move_of_step c.in-Ok.step) is) c.in-Ok-run_step.ensures.meets

pub returns-in-Ok-run_step-clause-gains : goal.returns-in-Ok-run_step-clause-gains
returns-in-Ok-run_step-clause-gains c =
    let quote = c.args.quote.now in
    let is = rw (c.pools-pools.ensures.list, c.as_slice-legs.ensures) at c.in-Ok.ensures in
    let done : QuoteDone c.args.tx.now.present c.args.actor.now c.args.quote.now =
    quote_gains c.args.tx.now.present c.args.actor.now quote c.requires.sound (problem_pools quote.problem c.pools-pools.ensures.sound) c.requires.cycle c.requires.ready in
    ledger_of (λ (l : Ledger). IsCycleGain c.args.tx.now.present l c.args.actor.now c.args.quote.now) c.args.tx.now c.run_step.new.tx c.in-Ok-run_step.field-0 _ _
    (done.is (move_of_step c.in-Ok.step) is) done.gains c.in-Ok-run_step.ensures.meets

pub returns-clause-meets : goal.returns-clause-meets
returns-clause-meets c =
    let quote = c.args.quote.now in
    let is = rw (c.pools-pools.ensures.list, c.as_slice-legs.ensures) at c.in-Ok.ensures in
    let done : QuoteDone c.args.tx.now.present c.args.actor.now c.args.quote.now =
    quote_gains c.args.tx.now.present c.args.actor.now quote c.requires.sound (problem_pools quote.problem c.pools-pools.ensures.sound) c.requires.cycle c.requires.ready in
    failed c.args.tx.now c.run_step.new.tx c.in-Err-run_step.fault _ _ _ (done.is (move_of_step c.in-Ok.step) is) c.in-Err-run_step.ensures.meets

pub returns-clause-no_code : goal.returns-clause-no_code
returns-clause-no_code c why same =
    let quote = c.args.quote.now in
    let is = rw (c.pools-pools.ensures.list, c.as_slice-legs.ensures) at c.in-Ok.ensures in
    let done : QuoteDone c.args.tx.now.present c.args.actor.now c.args.quote.now =
    quote_gains c.args.tx.now.present c.args.actor.now quote c.requires.sound (problem_pools quote.problem c.pools-pools.ensures.sound) c.requires.cycle c.requires.ready in
    no_code c.args.tx.now c.run_step.new.tx c.in-Err-run_step.fault _ _ (done.is (move_of_step c.in-Ok.step) is) c.in-Err-run_step.ensures.meets why same
