use Rattle.amm_model.proofs.LegLaw.{legs_are_route, legs_deliver}
use Rattle.amm_bound.proofs.legs_are_a_route.Goals as goal

pub returns-clause-route : goal.returns-clause-route
returns-clause-route c = legs_are_route

pub returns-clause-delivers : goal.returns-clause-delivers
returns-clause-delivers c = legs_deliver
