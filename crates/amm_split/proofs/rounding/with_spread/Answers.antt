use Rattle.amm_split.proofs.Best.{of_legs}
use Rattle.amm_split.proofs.Taken.{spread_over}
use Rattle.amm_split.proofs.rounding.with_spread.Goals as goal

pub returns-clause-spread : goal.returns-clause-spread
returns-clause-spread c =
    of_legs c.args.problem.now (spread_over c.args.problem.now c.args.terms.now) c.in_ok-legs.legs c.best_of.result.amount c.in_ok-legs.ensures (rw c.as_open.ensures at c.best_of.ensures.best)
