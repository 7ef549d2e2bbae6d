use Rattle.std.proofs.Common.{inl, inr, arith, refl}
use Rattle.amm_split.specs.Pairs.{no_path}
use Rattle.amm_split.specs.Shares.{hops_at}
use Rattle.amm_split.proofs.Bridge.{path_at}
use Rattle.amm_split.proofs.RowByRow.{wide-of}
use Rattle.amm_basket.proofs.BestWays.{best_way, no_way}
use Rattle.amm_basket.proofs.in_turn.sell.Goals as goal

pub best_share-best-requires-clause-rows : goal.best_share-best-requires-clause-rows
best_share-best-requires-clause-rows c = wide-of c.args.problem.now.pools c.args.paths.now c.args.part.now.amount c.args.rows.now c.requires.rows

pub returns-then-best-eq0 : goal.returns-then-best-eq0
returns-then-best-eq0 c = inl (
  no_way c.args.problem.now c.args.part.now c.args.used.now.items c.args.paths.now c.args.rows.now c.best_share-best.result c.requires.paths
      c.requires.rows (rw (c.equal_terms.ensures.value, c.part_amount-d.ensures.value) at c.equal_terms.ensures.ranges)
      (rw (c.deref.ensures.value, c.equal_terms.ensures.value, c.part_amount-d.ensures.value) at c.best_share-best.ensures) c.if-best-eq0.true,
  refl,
  refl,
)

pub push_legs-requires-clause-short : goal.push_legs-requires-clause-short
push_legs-requires-clause-short c =
    (path_at c.args.problem.now.pools c.args.part.now.token c.args.problem.now.t c.args.paths.now c.requires.paths.sound c.best_share-best.result.path no_path (c.best_share-best.ensures.found (omega arith)).0).short

pub push_legs-requires-clause-over : goal.push_legs-requires-clause-over
push_legs-requires-clause-over c =
    (path_at c.args.problem.now.pools c.args.part.now.token c.args.problem.now.t c.args.paths.now c.requires.paths.sound c.best_share-best.result.path no_path (c.best_share-best.ensures.found (omega arith)).0).over

pub push_places-requires : goal.push_places-requires
push_places-requires c = record {
  short = (path_at c.args.problem.now.pools c.args.part.now.token c.args.problem.now.t c.args.paths.now c.requires.paths.sound c.best_share-best.result.path no_path (c.best_share-best.ensures.found (omega arith)).0).short;
}

pub returns : goal.returns
returns c = inr (
  hops_at c.args.paths.now c.best_share-best.result.path,
  best_way c.args.problem.now c.args.part.now c.args.used.now.items c.args.paths.now c.args.rows.now c.best_share-best.result c.requires.paths
      c.requires.rows (rw (c.equal_terms.ensures.value, c.part_amount-d.ensures.value) at c.equal_terms.ensures.ranges)
      (rw (c.deref.ensures.value, c.equal_terms.ensures.value, c.part_amount-d.ensures.value) at c.best_share-best.ensures) (omega arith),
  c.in_ok-push_places.ensures,
  (rw c.part_amount-d.ensures.value at c.in_ok-push_legs.ensures),
)
