use Rattle.std.proofs.Common.{arith, []}
use Rattle.amm_basket.proofs.InTurn.{at_least, value_once}
use Rattle.amm_basket.proofs.answers.quoted.Goals as goal

pub returns-clause-answer : goal.returns-clause-answer
returns-clause-answer c =
    let problem = c.args.problem in
    record {
      problem = c.target-sound.ensures.sound;
      settled = c.in_ok-prices.ensures;
      bound = c.open_bound-bound.ensures.value;
      delivers = c.best_of-best.ensures.delivers;
      values = at_least problem c.best_of-best.result.amount
          (λ value is.
          (let in_turn = c.requires.in_turn in
          let same = value_once problem.pools problem.t [] problem.parts value in_turn.0 is in_turn.1 in
          omega (arith, same, c.best_of-first.ensures.best in_turn.0 in_turn.2, c.best_of-kept.ensures.more, c.best_of-best.ensures.more)))
          (λ value is. omega (arith, c.requires.most value is, c.best_of-first.ensures.more, c.best_of-kept.ensures.more, c.best_of-best.ensures.more));
    }
