use Rattle.std.proofs.Common.{subst}
use Rattle.amm_model.specs.Cycles.{HasNoCycle}
use Rattle.amm_engine.proofs.cycle.quote_for.Goals as goal

pub returns-in-Some-clause-some : goal.returns-in-Some-clause-some
returns-in-Some-clause-some c = let found = rw c.in-Some.is at c.in_ok-quote.ensures.answer in λ none. found.1 (subst HasNoCycle found.0 none)
