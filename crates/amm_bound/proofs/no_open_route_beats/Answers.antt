use Rattle.amm_bound.proofs.Law.{no_route_beats_bound}
use Rattle.amm_bound.proofs.no_open_route_beats.Goals as goal

pub returns : goal.returns
returns c = no_route_beats_bound
