use Rattle.std.proofs.Common.{[], get_or}
use Rattle.amm_split.proofs.Bridge.{no_value, over_at, short_at, the_value, values_below}
use Rattle.amm_split.proofs.values.greatest_value.Goals as goal

pub best_way-requires-clause-short : goal.best_way-requires-clause-short
best_way-requires-clause-short c =
    let problem = c.args.problem.now in
    rw c.deref.ensures.value (short_at problem.pools (get_or problem.tokens c.args.from []) (get_or problem.tokens c.args.to []) c.in_ok-paths.paths.items c.in_ok-paths.ensures.sound)

pub best_way-requires-clause-over : goal.best_way-requires-clause-over
best_way-requires-clause-over c =
    let problem = c.args.problem.now in
    rw c.deref.ensures.value (over_at problem.pools (get_or problem.tokens c.args.from []) (get_or problem.tokens c.args.to []) c.in_ok-paths.paths.items c.in_ok-paths.ensures.sound)

pub returns-then-best-eq0 : goal.returns-then-best-eq0
returns-then-best-eq0 c =
    let problem = c.args.problem.now in
    no_value problem.pools (get_or problem.tokens c.args.from []) (get_or problem.tokens c.args.to []) c.in_ok-paths.paths.items c.args.d c.in_ok-best.best.amount c.in_ok-paths.ensures
    (rw c.deref.ensures.value at c.in_ok-best.ensures.best) c.if-best-eq0.true

pub returns : goal.returns
returns c =
    let problem = c.args.problem.now in
    let s = get_or problem.tokens c.args.from [] in
    let t = get_or problem.tokens c.args.to [] in (
      the_value problem.pools s t c.in_ok-paths.paths.items c.args.d c.in_ok-best.best c.in_ok-paths.ensures (rw c.deref.ensures.value at c.in_ok-best.ensures.value) c.if-best-eq0.false,
      values_below problem.pools s t c.in_ok-paths.paths.items c.args.d c.in_ok-best.best.amount c.in_ok-paths.ensures (rw c.deref.ensures.value at c.in_ok-best.ensures.best),
    )
