use Rattle.std.proofs.Common.{◌<◌, ◌≤◌, length, arith, add-one, ap, refl, sym, ◌∙◌, ◌≡◌, get_or}
use Rattle.std.proofs.lemmas.List.{get_or_read_under}
use Rattle.amm_model.specs.declared.problem.Part.{Part}
use Rattle.amm_model.proofs.Problems.{no_part}
use Rattle.amm_legs.proofs.Steps.{follows_start, gives_next, part_place-lt}
use Rattle.amm_legs.proofs.progress.Progress.start.Goals as goal

pub bounds-held-places : goal.bounds-held-places
bounds-held-places c =
    part_place-lt c.args.problem.now c.parts-parts.ensures.sound c.part_places-places.result.now c.loop-i.i (rw (← c.parts-parts.ensures.list) c.loop-i-test.true) c.part_places-places.ensures.list

pub offset_bounds-held-places : goal.offset_bounds-held-places
offset_bounds-held-places c =
    let below = part_place-lt c.args.problem.now c.parts-parts.ensures.sound c.part_places-places.result.now c.loop-i.i (rw (← c.parts-parts.ensures.list) c.loop-i-test.true) c.part_places-places.ensures.list in
    omega arith

pub loop-i-preserved : goal.loop-i-preserved
loop-i-preserved c =
    let problem = c.args.problem.now in
    let below : c.loop-i.i < length problem.parts = rw (← c.parts-parts.ensures.list) c.loop-i-test.true in
    let is = rw c.parts-parts.ensures.list at c.index-parts-i.is in
    let read = get_or_read_under problem.parts c.loop-i.i (length problem.parts) c.index-parts-i.result no_part is below refl in
    let amount : (get_or c.parts-parts.result.now c.loop-i.i c.index-parts-i.result).amount ≡ (get_or problem.parts c.loop-i.i no_part).amount =
    ap (λ (p : Part). p.amount) (sym c.index-parts-i.is ∙ read) in
    rw add-one (gives_next problem c.parts-parts.ensures.sound c.part_places-places.result.now c.loop-i.held c.loop-i.i _ below c.part_places-places.ensures.list amount c.loop-i.invariant)

pub returns : goal.returns
returns c =
    let all : length c.args.problem.now.parts ≤ c.loop-i.i = rw (← c.parts-parts.ensures.list) c.loop-i-test.false in
    follows_start c.args.problem.now c.parts-parts.ensures.sound c.loop-i.held c.no_marks.result c.loop-i.i all c.no_marks.ensures.long c.no_marks.ensures.unmarked c.loop-i.invariant
