use Rattle.amm_split.proofs.Bridge.{no_value, over_at, short_at, the_value, values_below}
use Rattle.amm_split.proofs.OneOrTwo.{the_way}
use Rattle.amm_split.proofs.ways.best_of_ways.Goals as goal

pub best_way-requires-clause-short : goal.best_way-requires-clause-short
best_way-requires-clause-short c = short_at c.args.problem.now.pools c.args.part.now.token c.args.problem.now.t c.args.paths.now c.requires.paths.sound

pub best_way-requires-clause-over : goal.best_way-requires-clause-over
best_way-requires-clause-over c = over_at c.args.problem.now.pools c.args.part.now.token c.args.problem.now.t c.args.paths.now c.requires.paths.sound

pub returns-then-best-eq0 : goal.returns-then-best-eq0
returns-then-best-eq0 c =
    let problem = c.args.problem.now in
    let part = c.args.part.now in
    no_value problem.pools part.token problem.t c.args.paths.now part.amount c.in_ok-best.best.amount c.requires.paths
    (rw c.part_amount.ensures.value at c.in_ok-best.ensures.best) c.if-best-eq0.true

pub legs_of_way-requires-clause-way : goal.legs_of_way-requires-clause-way
legs_of_way-requires-clause-way c =
    the_way c.args.problem.now.pools c.args.paths.now c.args.part.now.amount c.in_ok-best.best (rw c.part_amount.ensures.value at c.in_ok-best.ensures.value) c.if-best-eq0.false

pub returns : goal.returns
returns c =
    let problem = c.args.problem.now in
    let part = c.args.part.now in
    record {
      delivers = c.in_ok-legs.ensures;
      value = the_value problem.pools part.token problem.t c.args.paths.now part.amount c.in_ok-best.best c.requires.paths (rw c.part_amount.ensures.value at c.in_ok-best.ensures.value) c.if-best-eq0.false;
      ways = values_below problem.pools part.token problem.t c.args.paths.now part.amount c.in_ok-best.best.amount c.requires.paths (rw c.part_amount.ensures.value at c.in_ok-best.ensures.best);
    }
