use Rattle.std.proofs.Common.{◌<◌, length, true, false, refl, ap, sym, ◌∙◌, eq-eqb}
use Rattle.std.proofs.lemmas.Bool.{ne_eqb}
use Rattle.std.proofs.lemmas.List.{get_or_read_under}
use Rattle.std.proofs.Math.ListN.{length-map}
use Rattle.amm_model.specs.Routing.{no_pool}
use Rattle.amm_graph.specs.Ways.{is_admissible}
use Rattle.amm_graph.proofs.Sides.{hop_over-is, hop_over-not, no_places, name_at, one_name, one_test, zero_name, zero_test}
use Rattle.amm_graph.proofs.walk.side.Goals as goal

pub returns-then-not-is_admissible-clause-none : goal.returns-then-not-is_admissible-clause-none
returns-then-not-is_admissible-clause-none c =
    let problem = c.args.problem.now in
    let read = get_or_read_under problem.pools c.args.i (length problem.pools) c.index-pools-i.result no_pool (rw c.pools-pools.ensures.list at c.index-pools-i.is) c.requires.pool refl in
    hop_over-not problem.pools (name_at problem c.args.at) c.args.i (ap is_admissible (sym read) ∙ sym c.is_admissible.ensures ∙ c.if-not-is_admissible.true)

pub returns-then-at-sides-clause-some : goal.returns-then-at-sides-clause-some
returns-then-at-sides-clause-some c =
    let problem = c.args.problem.now in
    let places = c.places-places.result.now in
    let sound = c.pools-pools.ensures.sound in
    let are = c.places-places.ensures.list in
    let read = get_or_read_under problem.pools c.args.i (length problem.pools) c.index-pools-i.result no_pool (rw c.pools-pools.ensures.list at c.index-pools-i.is) c.requires.pool refl in
    let inside : c.args.i < length places = rw (are, length-map) c.requires.pool in (
      hop_over-is problem.pools (name_at problem c.args.at) c.args.i true true _ (ap is_admissible (sym read) ∙ sym c.is_admissible.ensures ∙ c.if-not-is_admissible.false)
          (zero_test problem sound places c.args.at c.args.i c.requires.at c.requires.pool are ∙ eq-eqb c.args.at _ c.if-at-sides.true) refl,
      one_name problem sound places c.args.i c.requires.pool are,
      (c.places-places.ensures.there c.args.i no_places inside).1,
    )

pub returns-then-at-sides-2-clause-some : goal.returns-then-at-sides-2-clause-some
returns-then-at-sides-2-clause-some c =
    let problem = c.args.problem.now in
    let places = c.places-places.result.now in
    let sound = c.pools-pools.ensures.sound in
    let are = c.places-places.ensures.list in
    let read = get_or_read_under problem.pools c.args.i (length problem.pools) c.index-pools-i.result no_pool (rw c.pools-pools.ensures.list at c.index-pools-i.is) c.requires.pool refl in
    let inside : c.args.i < length places = rw (are, length-map) c.requires.pool in (
      hop_over-is problem.pools (name_at problem c.args.at) c.args.i true false true (ap is_admissible (sym read) ∙ sym c.is_admissible.ensures ∙ c.if-not-is_admissible.false)
          (zero_test problem sound places c.args.at c.args.i c.requires.at c.requires.pool are ∙ ne_eqb c.args.at _ c.if-at-sides.false)
          (one_test problem sound places c.args.at c.args.i c.requires.at c.requires.pool are ∙ eq-eqb c.args.at _ c.if-at-sides-2.true),
      zero_name problem sound places c.args.i c.requires.pool are,
      (c.places-places.ensures.there c.args.i no_places inside).0,
    )

pub returns-clause-none : goal.returns-clause-none
returns-clause-none c =
    let problem = c.args.problem.now in
    let places = c.places-places.result.now in
    let sound = c.pools-pools.ensures.sound in
    let are = c.places-places.ensures.list in
    let read = get_or_read_under problem.pools c.args.i (length problem.pools) c.index-pools-i.result no_pool (rw c.pools-pools.ensures.list at c.index-pools-i.is) c.requires.pool refl in
    hop_over-is problem.pools (name_at problem c.args.at) c.args.i true false false (ap is_admissible (sym read) ∙ sym c.is_admissible.ensures ∙ c.if-not-is_admissible.false)
    (zero_test problem sound places c.args.at c.args.i c.requires.at c.requires.pool are ∙ ne_eqb c.args.at _ c.if-at-sides.false)
    (one_test problem sound places c.args.at c.args.i c.requires.at c.requires.pool are ∙ ne_eqb c.args.at _ c.if-at-sides-2.false)
