use Rattle.amm_model.proofs.Problems.{one_open_problem}
use Rattle.amm_model.proofs.problem.parts_determine_open_problem.Goals as goal

pub returns : goal.returns
returns c = one_open_problem
