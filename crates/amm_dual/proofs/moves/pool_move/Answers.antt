use Rattle.std.proofs.Common.{true, false, sym, eq-eqb, ◌∙◌, refl}
use Rattle.std.proofs.lemmas.Bool.{ne_eqb}
use Rattle.amm_dual.proofs.Numbers.{pool_move-is, target_of, zero_of, one_of}
use Rattle.amm_dual.proofs.Worths.{zero-at, one-at}
use Rattle.amm_dual.proofs.moves.pool_move.Goals as goal

pub returns-then-zero-target : goal.returns-then-zero-target
returns-then-zero-target c =
    let problem = c.args.problem.now in
    let zero = zero-at problem.tokens problem.pools c.places-places.result.now c.args.i c.requires c.places-places.ensures.list in
    sym (pool_move-is problem c.args.i c.args.k c.args.first_up c.args.second_up true _ (eq-eqb (zero_of problem c.args.i) (target_of problem) (sym zero ∙ c.if-zero-target.true ∙ c.target-target.ensures.place)) refl)

pub returns-then-one-target : goal.returns-then-one-target
returns-then-one-target c =
    let problem = c.args.problem.now in
    let zero = zero-at problem.tokens problem.pools c.places-places.result.now c.args.i c.requires c.places-places.ensures.list in
    let one = one-at problem.tokens problem.pools c.places-places.result.now c.args.i c.requires c.places-places.ensures.list in
    sym (pool_move-is problem c.args.i c.args.k c.args.first_up c.args.second_up false true
    (ne_eqb (zero_of problem c.args.i) (target_of problem) (λ e. c.if-zero-target.false (zero ∙ e ∙ sym c.target-target.ensures.place)))
    (eq-eqb (one_of problem c.args.i) (target_of problem) (sym one ∙ c.if-one-target.true ∙ c.target-target.ensures.place)))

pub returns : goal.returns
returns c =
    let problem = c.args.problem.now in
    let zero = zero-at problem.tokens problem.pools c.places-places.result.now c.args.i c.requires c.places-places.ensures.list in
    let one = one-at problem.tokens problem.pools c.places-places.result.now c.args.i c.requires c.places-places.ensures.list in
    rw (zero, one) (sym (pool_move-is problem c.args.i c.args.k c.args.first_up c.args.second_up false false
    (ne_eqb (zero_of problem c.args.i) (target_of problem) (λ e. c.if-zero-target.false (zero ∙ e ∙ sym c.target-target.ensures.place)))
    (ne_eqb (one_of problem c.args.i) (target_of problem) (λ e. c.if-one-target.false (one ∙ e ∙ sym c.target-target.ensures.place)))))
