use Rattle.std.proofs.Common.{subst}
use Rattle.amm_model.specs.SplitAnswers.{HasNoRoute}
use Rattle.amm_engine.proofs.split.quote_for.Goals as goal

pub returns-in-Some-clause-some : goal.returns-in-Some-clause-some
returns-in-Some-clause-some c = let found = rw c.in-Some.is at c.in_ok-quote.ensures in λ none. found.1 (subst HasNoRoute found.0 none)
