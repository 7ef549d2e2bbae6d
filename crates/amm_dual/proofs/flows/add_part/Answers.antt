use Rattle.std.proofs.Common.{◌≡◌, ◌∙◌, arith, ap, sym, subst, refl, map, length, get_or}
use Rattle.std.proofs.Math.ListN.{length-map}
use Rattle.std.proofs.lemmas.List.{get_or_read_under}
use Rattle.amm_model.specs.declared.problem.Part.{Part}
use Rattle.amm_model.specs.Routing.{IsOpenProblem, OpenView, part_place}
use Rattle.amm_model.proofs.Problems.{no_part}
use Rattle.amm_dual.proofs.LineLaw.{gifts-more}
use Rattle.amm_dual.proofs.flows.add_part.Goals as goal

pub returns-then-given-place-lt-MOST_AMOUNT : goal.returns-then-given-place-lt-MOST_AMOUNT
returns-then-given-place-lt-MOST_AMOUNT c =
    let problem = c.args.running.now.problem in
    let i = c.args.i in
    let same = c.problem-problem.ensures.same in
    let places = c.part_places-places.result.now in
    let places-are : places ≡ map (part_place problem.tokens) problem.parts = c.part_places-places.ensures.list ∙ ap (λ (o : OpenView). map (part_place o.tokens) o.parts) same in
    let parts-are : c.parts-parts.result.now ≡ problem.parts = c.parts-parts.ensures.list ∙ ap (λ (o : OpenView). o.parts) same in
    let sound = subst (λ (o : OpenView). IsOpenProblem o) same c.parts-parts.ensures.sound in
    let part-is : c.index-parts-i.result ≡ get_or problem.parts i no_part =
    get_or_read_under problem.parts i (length problem.parts) c.index-parts-i.result no_part (rw parts-are at c.index-parts-i.is) c.requires.within refl in
    let amount-is = ap (λ (p : Part). p.amount) (sym c.index-parts-i.is ∙ part-is) in
    let small = (sound.parts.amounts i no_part c.requires.within).1 in
    let many = ap length places-are ∙ length-map problem.parts (part_place problem.tokens) in
    let there = c.part_places-places.ensures.there i 0 (omega (arith, many, c.requires.within)) in
    let tokens = ap (λ (o : OpenView). length o.tokens) same in
    gifts-more problem i (get_or places i 0) _ _ c.args.given.now places c.requires.within places-are refl amount-is
    (omega (arith, there, tokens, c.requires.before.amounts.many)) refl (omega (arith, small, amount-is, c.if-given-place-lt-MOST_AMOUNT.true)) c.requires.before
