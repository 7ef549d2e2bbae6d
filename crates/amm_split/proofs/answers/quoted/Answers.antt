use Rattle.std.proofs.Common.{arith}
use Rattle.amm_split.proofs.Best.{answers, ways_still}
use Rattle.amm_split.proofs.answers.quoted.Goals as goal

pub returns-clause-answer : goal.returns-clause-answer
returns-clause-answer c =
    let problem = c.args.problem.now in
    answers problem _ c.d-sound.ensures.sound c.in_ok-copy.ensures (rw c.as_open-2.ensures at c.in_ok-prices.ensures) c.bound.ensures.value c.in_ok-best.ensures.delivers
    (ways_still problem c.args.found.amount c.in_ok-best.best.amount (omega (arith, c.in_ok-best.ensures.more, c.best_of-kept.ensures.more)) c.requires.found.ways) c.in_ok-best.ensures.spreads
