use Rattle.std.proofs.Common.{◌∙◌, ◌++◌, ◌∷◌, [], arith, refl}
use Rattle.std.proofs.lemmas.List.{length-take}
use Rattle.std.proofs.lemmas.Grind.{common_steps}
use Rattle.amm_cycle.specs.Chains.{hops_of}
use Rattle.amm_cycle.proofs.Gifts.{given-more}
use Rattle.amm_cycle.proofs.Steps.{begun_long, begun_more, cycle_closed, leads_past_target, leads_to_target, met_apart, met_closed, met_long, met_on, none_over, some_over, two_tokens}
use Rattle.amm_cycle.proofs.walk.+walk.Goals as goal

pub follow-closed-requires-clause-cycle : goal.follow-closed-requires-clause-cycle
follow-closed-requires-clause-cycle t c =
    let problem = c.args.problem.now in
    let sound = c.target.ensures.sound in
    let longer = hops_of c.args.begun.now ++ c.args.hop ∷ [] in
    cycle_closed problem.pools problem.t (hops_of c.args.begun.now) longer c.args.hop (two_tokens problem sound) (omega (arith, length-take c.args.begun.now.count c.args.begun.now.hops, c.requires.short))
    (leads_to_target problem c.args.next c.target.result c.args.hop sound c.target.ensures.place c.requires.leads c.if-next-target.true) refl c.requires.begun

pub follow-returns-then-next-target-clause-most : goal.follow-returns-then-next-target-clause-most
follow-returns-then-next-target-clause-most t c =
    let problem = c.args.problem.now in
    let longer = hops_of c.args.begun.now ++ c.args.hop ∷ [] in
    met_closed problem.pools problem.t (hops_of c.args.begun.now) longer c.args.hop c.closed.result.profit
    (leads_to_target problem c.args.next c.target.result c.args.hop c.target.ensures.sound c.target.ensures.place c.requires.leads c.if-next-target.true) refl c.closed.ensures.most

pub follow-returns-then-longer-eq-MOST_HOPS-clause-most : goal.follow-returns-then-longer-eq-MOST_HOPS-clause-most
follow-returns-then-longer-eq-MOST_HOPS-clause-most t c =
    let problem = c.args.problem.now in
    let past = leads_past_target problem c.args.next c.target.result c.args.hop c.target.ensures.sound c.target.ensures.place c.requires.leads c.requires.next c.target.ensures.there c.if-next-target.false in
    met_long problem.pools problem.t (hops_of c.args.begun.now) c.args.hop c.args.kept.profit past
    (begun_long (hops_of c.args.begun.now) (hops_of c.with-longer.result) c.args.hop 3 c.with-longer.ensures.hops (c.with-longer.ensures.long ∙ c.if-longer-eq-MOST_HOPS.true))

pub follow-extend-requires : goal.follow-extend-requires
follow-extend-requires t c = (
  grind (arith, common_steps),
  (
    omega (arith, c.with-longer.ensures.count, c.if-longer-eq-MOST_HOPS.false, c.requires.short),
    (
      c.requires.next,
      (
        rw (c.with-longer.ensures.hops, c.requires.leads) c.requires.begun,
        (
          given-more c.args.problem.now.pools (hops_of c.args.begun.now) (hops_of c.with-longer.result) c.args.hop c.args.powers.now.amounts c.with-given.result.amounts c.requires.powers
              c.with-longer.ensures.hops c.with-given.ensures.long c.with-given.ensures.each c.with-given.ensures.below,
          c.requires.kept,
        ),
      ),
    ),
  ),
)

pub follow-returns-clause-most : goal.follow-returns-clause-most
follow-returns-clause-most t c =
    let problem = c.args.problem.now in
    let past = leads_past_target problem c.args.next c.target.result c.args.hop c.target.ensures.sound c.target.ensures.place c.requires.leads c.requires.next c.target.ensures.there c.if-next-target.false in
    met_on problem.pools problem.t (hops_of c.args.begun.now) (hops_of c.with-longer.result) c.args.hop c.extend.result.profit past c.with-longer.ensures.hops c.extend.ensures.most

pub over-returns-in_default-clause-most : goal.over-returns-in_default-clause-most
over-returns-in_default-clause-most t c =
    let problem = c.args.problem.now in
    none_over problem.pools problem.t _ (hops_of c.args.begun.now) c.args.kept.profit c.args.i (two_tokens problem c.side.ensures.sound) c.requires.begun c.in_default.ensures.none

pub over-returns-then-not-is_apart-clause-most : goal.over-returns-then-not-is_apart-clause-most
over-returns-then-not-is_apart-clause-most t c =
    let problem = c.args.problem.now in
    let some = c.in-Some.ensures.some in
    some_over problem.pools problem.t _ (hops_of c.args.begun.now) c.in-Some.hop c.args.kept.profit c.args.i (two_tokens problem c.side.ensures.sound) c.requires.begun some.0
    (met_apart problem.pools problem.t (hops_of c.args.begun.now) c.in-Some.hop c.args.kept.profit (c.is_apart.ensures.no c.if-not-is_apart.true))

pub over-follow-requires : goal.over-follow-requires
over-follow-requires t c =
    let problem = c.args.problem.now in
    let some = c.in-Some.ensures.some in (
      grind (arith, common_steps),
      (
        c.requires.short,
        (
          some.2,
          (
            some.1,
            (
              begun_more problem.pools problem.t _ (hops_of c.args.begun.now) c.in-Some.hop c.args.i c.requires.pool c.requires.begun some.0 (c.is_apart.ensures.yes c.if-not-is_apart.false),
              (c.requires.powers, c.requires.kept),
            ),
          ),
        ),
      ),
    )

pub over-returns-clause-most : goal.over-returns-clause-most
over-returns-clause-most t c =
    let problem = c.args.problem.now in
    let some = c.in-Some.ensures.some in
    some_over problem.pools problem.t _ (hops_of c.args.begun.now) c.in-Some.hop c.follow.result.profit c.args.i (two_tokens problem c.side.ensures.sound) c.requires.begun some.0 c.follow.ensures.most
