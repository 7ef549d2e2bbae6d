use Rattle.amm_dual.proofs.Steps.{first-within, second-within, step_sound, unit-kept}
use Rattle.std.proofs.Common.{refl}
use Rattle.amm_dual.proofs.descent.is_ruled_out.Goals as goal

pub changes_of-requires-clause-first : goal.changes_of-requires-clause-first
changes_of-requires-clause-first c =
    let now = c.args.running.now in
    let step = step_sound now.problem c.problem-problem.result.now c.args.n c.in-Some.step c.move_at.result c.problem-problem.ensures.same c.move_at.ensures.sound c.requires.number c.move_at.ensures.same c.in-Some.is in
    first-within now.problem now.prices c.in-Some.step c.problem-problem.ensures.many step.0.is_move

pub changes_of-requires-clause-second : goal.changes_of-requires-clause-second
changes_of-requires-clause-second c =
    let now = c.args.running.now in
    let step = step_sound now.problem c.problem-problem.result.now c.args.n c.in-Some.step c.move_at.result c.problem-problem.ensures.same c.move_at.ensures.sound c.requires.number c.move_at.ensures.same c.in-Some.is in
    second-within now.problem step.1 now.prices c.in-Some.step c.problem-problem.ensures.many step.0.is_move

pub changes_of-requires-clause-size : goal.changes_of-requires-clause-size
changes_of-requires-clause-size c =
    let now = c.args.running.now in
    (step_sound now.problem c.problem-problem.result.now c.args.n c.in-Some.step c.move_at.result c.problem-problem.ensures.same c.move_at.ensures.sound c.requires.number c.move_at.ensures.same c.in-Some.is).0.size.1

pub rules_out-requires-clause-unit : goal.rules_out-requires-clause-unit
rules_out-requires-clause-unit c =
    let now = c.args.running.now in
    let step = step_sound now.problem c.problem-problem.result.now c.args.n c.in-Some.step c.move_at.result c.problem-problem.ensures.same c.move_at.ensures.sound c.requires.number c.move_at.ensures.same c.in-Some.is in
    unit-kept now.problem now.problem now.prices _ c.in-Some.step refl step.0.is_move c.in-Some-changes_of.ensures.2
