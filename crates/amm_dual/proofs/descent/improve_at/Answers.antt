use Rattle.amm_dual.proofs.Duality.{many-either}
use Rattle.amm_dual.proofs.Steps.{first-within, second-within, step_sound, unit-either}
use Rattle.amm_dual.proofs.descent.improve_at.Goals as goal

pub improve-requires-clause-first : goal.improve-requires-clause-first
improve-requires-clause-first c =
    let now = c.args.running.now in
    let step = step_sound now.problem c.problem-problem.result.now c.args.n c.in-Some.step c.move_at.result c.problem-problem.ensures.same c.move_at.ensures.sound c.requires.number c.move_at.ensures.same c.in-Some.is in
    first-within now.problem now.prices c.in-Some.step c.problem-problem.ensures.many step.0.is_move

pub improve-requires-clause-second : goal.improve-requires-clause-second
improve-requires-clause-second c =
    let now = c.args.running.now in
    let step = step_sound now.problem c.problem-problem.result.now c.args.n c.in-Some.step c.move_at.result c.problem-problem.ensures.same c.move_at.ensures.sound c.requires.number c.move_at.ensures.same c.in-Some.is in
    second-within now.problem step.1 now.prices c.in-Some.step c.problem-problem.ensures.many step.0.is_move

pub improve-requires-clause-size : goal.improve-requires-clause-size
improve-requires-clause-size c =
    let now = c.args.running.now in
    (step_sound now.problem c.problem-problem.result.now c.args.n c.in-Some.step c.move_at.result c.problem-problem.ensures.same c.move_at.ensures.sound c.requires.number c.move_at.ensures.same c.in-Some.is).0.size.1

pub returns-clause-unit : goal.returns-clause-unit
returns-clause-unit c =
    let now = c.args.running.now in
    let step = step_sound now.problem c.problem-problem.result.now c.args.n c.in-Some.step c.move_at.result c.problem-problem.ensures.same c.move_at.ensures.sound c.requires.number c.move_at.ensures.same c.in-Some.is in
    unit-either c.improve.result now.problem c.improve.new.running.problem now.prices c.improve.new.running.prices c.in-Some.step c.improve.ensures.problem step.0.is_move c.improve.ensures.taken c.improve.ensures.kept

pub returns-clause-many : goal.returns-clause-many
returns-clause-many c = many-either c.improve.result c.args.running.now.prices c.improve.new.running.prices c.in-Some.step c.improve.ensures.taken c.improve.ensures.kept
