use Rattle.std.proofs.Common.{arith}
use Rattle.amm_cycle.specs.Chains.{hops_of}
use Rattle.amm_cycle.proofs.Law.{no_trade_beats}
use Rattle.amm_cycle.proofs.answers.quoted.Goals as goal

pub returns-clause-within : goal.returns-clause-within
returns-clause-within c =
    let problem = c.args.problem in
    let best = c.args.best.now in
    let settled = c.in_ok-prices.ensures in
    rw c.open_bound-bound.ensures.value (no_trade_beats problem c.in_ok-prices.prices _ best.profit c.target-sound.ensures.sound settled.as_many settled.ranges (record {
      hops = hops_of best.chain;
      x = best.x;
      is_cycle = c.requires.best.cycle;
      stands = omega (arith, c.requires.best.some, c.requires.best.is);
      legs_of = c.in_ok-legs.ensures;
      gained = c.requires.best.is;
    }))

pub returns-clause-answer : goal.returns-clause-answer
returns-clause-answer c =
    let best = c.args.best.now in
    record {
      problem = c.target-sound.ensures.sound;
      settled = c.in_ok-prices.ensures;
      bound = c.open_bound-bound.ensures.value;
      trade = record {
        hops = hops_of best.chain;
        x = best.x;
        is_cycle = c.requires.best.cycle;
        stands = omega (arith, c.requires.best.some, c.requires.best.is);
        legs_of = c.in_ok-legs.ensures;
        gained = c.requires.best.is;
      };
      values = c.requires.most;
    }
