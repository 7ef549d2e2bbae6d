use Rattle.amm_work.proofs.NoRoute.{lines_take_none}
use Rattle.amm_work.proofs.law.lines_take_no_route.Goals as goal

pub returns : goal.returns
returns c seed count le = lines_take_none seed 0 count (c.lines_read_back.ensures seed count le)
