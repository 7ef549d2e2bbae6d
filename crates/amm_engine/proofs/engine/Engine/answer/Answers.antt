use Rattle.std.proofs.lemmas.Result.{on_ok_weaker}
use Rattle.amm_engine.proofs.Steps.{AnswersLine-blank, AnswersLine-long}
use Rattle.amm_engine.proofs.engine.Engine.answer.Goals as goal

pub returns-in-Blank-clause-ok : goal.returns-in-Blank-clause-ok
returns-in-Blank-clause-ok c = rw c.in-Blank.is (AnswersLine-blank _ _ _ c.book-rest.ensures.rest c.clear.ensures.items)

pub returns-in-Long-clause-ok : goal.returns-in-Long-clause-ok
returns-in-Long-clause-ok c = rw c.in-Long.is (on_ok_weaker _ (λ is. AnswersLine-long _ _ _ c.book-rest.ensures.rest is) c.write_reply.ensures)
