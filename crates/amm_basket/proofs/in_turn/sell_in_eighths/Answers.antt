use Rattle.std.proofs.Common.{arith}
use Rattle.amm_split.specs.Pairs.{no_path}
use Rattle.amm_split.proofs.Bridge.{path_at}
use Rattle.amm_split.proofs.RowByRow.{wide-of}
use Rattle.amm_basket.proofs.in_turn.sell_in_eighths.Goals as goal

pub best_share-best-requires-clause-rows : goal.best_share-best-requires-clause-rows
best_share-best-requires-clause-rows c = wide-of c.args.problem.now.pools c.args.paths.now c.args.part.now.amount c.args.rows.now c.requires.rows

pub push_legs-requires-clause-short : goal.push_legs-requires-clause-short
push_legs-requires-clause-short c =
    (path_at c.args.problem.now.pools c.args.part.now.token c.args.problem.now.t c.args.paths.now c.requires.paths.sound c.best_share-best.result.path no_path (c.best_share-best.ensures.found (omega arith)).0).short

pub push_legs-requires-clause-over : goal.push_legs-requires-clause-over
push_legs-requires-clause-over c =
    (path_at c.args.problem.now.pools c.args.part.now.token c.args.problem.now.t c.args.paths.now c.requires.paths.sound c.best_share-best.result.path no_path (c.best_share-best.ensures.found (omega arith)).0).over

pub push_places-requires : goal.push_places-requires
push_places-requires c = record {
  short = (path_at c.args.problem.now.pools c.args.part.now.token c.args.problem.now.t c.args.paths.now c.requires.paths.sound c.best_share-best.result.path no_path (c.best_share-best.ensures.found (omega arith)).0).short;
}
