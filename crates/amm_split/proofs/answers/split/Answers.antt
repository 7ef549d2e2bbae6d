use Rattle.amm_model.specs.Routing.{open_view}
use Rattle.amm_split.specs.Deliveries.{source_part}
use Rattle.amm_split.proofs.OneOrTwo.{found_none, found_some}
use Rattle.amm_split.proofs.answers.split.Goals as goal

pub returns-in_default : goal.returns-in_default
returns-in_default c =
    let problem = c.args.problem.now in
    found_none (open_view problem) (source_part problem) c.in_ok-found.field-0 c.in_default.not-Some (rw (c.as_open.ensures, c.source_part.ensures.part) at c.in_ok-found.ensures)

pub returns : goal.returns
returns c =
    let problem = c.args.problem.now in
    let best = found_some (open_view problem) (source_part problem) c.in_ok-found.field-0 c.in-Some.found c.in-Some.is (rw (c.as_open.ensures, c.source_part.ensures.part) at c.in_ok-found.ensures) in
    (c.in_ok-quote.ensures.problem, λ none. none c.in-Some.found.amount best.value, c.in_ok-quote.ensures.answer)
