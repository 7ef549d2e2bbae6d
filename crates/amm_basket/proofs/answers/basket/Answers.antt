use Rattle.amm_basket.proofs.InTurn.{nothing_alone, something_alone}
use Rattle.amm_basket.proofs.answers.basket.Goals as goal

pub returns-then-candidates-eq0 : goal.returns-then-candidates-eq0
returns-then-candidates-eq0 c = nothing_alone c.args.problem c.in_ok-candidates.candidates c.in_ok-candidates.ensures c.if-candidates-eq0.true

pub returns : goal.returns
returns c =
    (c.in_ok-quote.ensures.problem, something_alone c.args.problem c.in_ok-candidates.candidates c.in_ok-candidates.ensures c.if-candidates-eq0.false, c.in_ok-quote.ensures.answer)
