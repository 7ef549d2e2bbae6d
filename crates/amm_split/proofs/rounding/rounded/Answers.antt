use Rattle.std.proofs.Common.{arith}
use Rattle.amm_model.specs.Spreads.{equal_shares}
use Rattle.amm_split.proofs.Best.{of_equal, of_prices, still}
use Rattle.amm_split.proofs.Bridge.{over_at, short_at}
use Rattle.amm_split.proofs.rounding.rounded.Goals as goal

pub rows_of-requires-clause-short : goal.rows_of-requires-clause-short
rows_of-requires-clause-short c = short_at c.args.problem.now.pools c.args.problem.now.s c.args.problem.now.t c.args.paths.now c.requires.paths.sound

pub rows_of-requires-clause-over : goal.rows_of-requires-clause-over
rows_of-requires-clause-over c = rw c.as_open.ensures (over_at c.args.problem.now.pools c.args.problem.now.s c.args.problem.now.t c.args.paths.now c.requires.paths.sound)

pub returns-clause-spreads : goal.returns-clause-spreads
returns-clause-spreads c =
    let problem = c.args.problem.now in
    let prices = c.args.prices.now in
    let d = c.source_amount-d.result in
    let amount = c.in_ok-priced.priced.amount in
    let last = c.in_ok-priced.ensures.more in
    let third = c.in_ok-eighths.ensures.more in
    let second = c.in_ok-quarters.ensures.more in
    record {
      halves = still (equal_shares problem 2) c.in_ok-halves.halves.amount amount (omega arith)
          (of_equal problem c.equal_terms.result d 8 c.in_ok-halves.halves.amount c.equal_terms.ensures.value c.source_amount-d.ensures.value c.in_ok-halves.ensures.spread);
      quarters = still (equal_shares problem 4) c.in_ok-quarters.quarters.amount amount (omega arith)
          (of_equal problem c.equal_terms-2.result d 4 c.in_ok-quarters.quarters.amount c.equal_terms-2.ensures.value c.source_amount-d.ensures.value c.in_ok-quarters.ensures.spread);
      eighths = still (equal_shares problem 8) c.in_ok-eighths.eighths.amount amount (omega arith)
          (of_equal problem c.equal_terms-3.result d 2 c.in_ok-eighths.eighths.amount c.equal_terms-3.ensures.value c.source_amount-d.ensures.value c.in_ok-eighths.ensures.spread);
      priced = of_prices problem prices c.terms_at-terms.result amount c.terms_at-terms.ensures.value c.in_ok-priced.ensures.spread;
    }
