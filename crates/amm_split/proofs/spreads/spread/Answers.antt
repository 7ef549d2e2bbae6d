use Rattle.std.proofs.Common.{ℕ, arith, subst, sym, List}
use Rattle.amm_model.specs.declared.route.Leg.{Leg}
use Rattle.amm_split.specs.Pairs.{no_path}
use Rattle.amm_split.specs.Shares.{AreRows, IsSpreadRoute}
use Rattle.amm_split.proofs.Bridge.{path_at}
use Rattle.amm_split.proofs.RowByRow.{wide-of}
use Rattle.amm_split.proofs.Taken.{nothing-taken, more-taken, all-taken, ends-of, spread_over}
use Rattle.amm_split.proofs.spreads.spread.Goals as goal

pub best_share-best-requires-clause-rows : goal.best_share-best-requires-clause-rows
best_share-best-requires-clause-rows c = wide-of c.args.problem.now.pools c.args.paths.now c.args.problem.now.d c.args.rows.now c.requires.rows

pub loop-best-init : goal.loop-best-init
loop-best-init c = nothing-taken c.args.problem.now c.args.terms.now c.new-used.result.items c.new-legs.result.items c.new-used.ensures.items c.new-legs.ensures.items

pub push_legs-requires-clause-short : goal.push_legs-requires-clause-short
push_legs-requires-clause-short c =
    (path_at c.args.problem.now.pools c.args.problem.now.s c.args.problem.now.t c.args.paths.now c.requires.paths.sound c.best_share-best.result.path no_path (c.best_share-best.ensures.found (omega arith)).0).short

pub push_legs-requires-clause-over : goal.push_legs-requires-clause-over
push_legs-requires-clause-over c = rw c.as_open.ensures
    (path_at c.args.problem.now.pools c.args.problem.now.s c.args.problem.now.t c.args.paths.now c.requires.paths.sound c.best_share-best.result.path no_path (c.best_share-best.ensures.found (omega arith)).0).over

pub push_places-requires : goal.push_places-requires
push_places-requires c = record {
  short = (path_at c.args.problem.now.pools c.args.problem.now.s c.args.problem.now.t c.args.paths.now c.requires.paths.sound c.best_share-best.result.path no_path (c.best_share-best.ensures.found (omega arith)).0).short;
}

pub returns-then-best-eq0 : goal.returns-then-best-eq0
returns-then-best-eq0 c =
    let problem = c.args.problem.now in
    let terms = c.args.terms.now in
    subst (λ (legs : List Leg). IsSpreadRoute c.args.problem.now (spread_over c.args.problem.now c.args.terms.now) legs) (sym c.from_vec.ensures)
    (all-taken problem terms c.loop-best.left c.loop-best.used.items c.deref.result.now c.loop-best.legs.items c.args.paths.now c.args.rows.now c.best_share-best.result
    (ends-of problem c.d-sound.ensures.sound) c.requires.amount c.requires.paths (subst (λ (d : ℕ). AreRows c.args.problem.now.pools c.args.paths.now d c.args.rows.now) (sym c.requires.amount) c.requires.rows) c.requires.terms
    c.deref.ensures.value c.best_share-best.ensures c.if-best-eq0.true c.loop-best.invariant)

pub loop-best-preserved : goal.loop-best-preserved
loop-best-preserved c =
    more-taken c.args.problem.now c.args.terms.now c.loop-best.left c.loop-best.used.items c.deref.result.now c.push_places.new.used.items c.loop-best.legs.items c.push_legs.new.legs.items
    c.args.paths.now c.args.rows.now c.best_share-best.result c.sixteenths.result
    c.requires.paths (subst (λ (d : ℕ). AreRows c.args.problem.now.pools c.args.paths.now d c.args.rows.now) (sym c.requires.amount) c.requires.rows) c.requires.terms
    c.deref.ensures.value c.best_share-best.ensures (omega arith) c.loop-best.invariant c.sixteenths.ensures.value (rw c.as_open.ensures at c.in_ok-push_legs.ensures) c.in_ok-push_places.ensures
