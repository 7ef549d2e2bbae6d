use Rattle.amm_split.proofs.Bridge.{over_at, short_at}
use Rattle.amm_basket.proofs.in_turn.rows_of_part.Goals as goal

pub rows_of-requires-clause-short : goal.rows_of-requires-clause-short
rows_of-requires-clause-short c = short_at c.args.problem.now.pools c.args.part.now.token c.args.problem.now.t c.args.paths.now c.requires.paths.sound

pub rows_of-requires-clause-over : goal.rows_of-requires-clause-over
rows_of-requires-clause-over c = over_at c.args.problem.now.pools c.args.part.now.token c.args.problem.now.t c.args.paths.now c.requires.paths.sound
