use Rattle.std.proofs.Common.{arith}
use Rattle.amm_cycle.proofs.Gifts.{is_standing, standing_value}
use Rattle.amm_cycle.proofs.answers.cycle.Goals as goal

pub returns-then-found-eq0-clause-answer : goal.returns-then-found-eq0-clause-answer
returns-then-found-eq0-clause-answer c value is = let least = c.best_cycle-found.ensures.most value is in omega (arith, least, c.if-found-eq0.true, is.stands, is.given)

pub returns-clause-answer : goal.returns-clause-answer
returns-clause-answer c =
    let problem = c.args.problem in
    let standing = is_standing problem.pools problem.t c.best_cycle-found.result c.best_cycle-found.ensures.found c.if-found-eq0.false in
    (c.in_ok-quote.ensures.problem, λ none. (let value = standing_value problem.pools problem.t c.best_cycle-found.result standing in none value.0 value.1), c.in_ok-quote.ensures.answer)

pub quoted-requires-clause-most : goal.quoted-requires-clause-most
quoted-requires-clause-most c value is = let least = c.best_cycle-found.ensures.most value is in omega (arith, least, c.polished-best.ensures.more)
