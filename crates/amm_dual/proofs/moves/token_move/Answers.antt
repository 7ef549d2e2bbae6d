use Rattle.std.proofs.Common.{true, false, sym, eq-eqb, ◌≡◌, nat_eq, ◌∙◌}
use Rattle.std.proofs.lemmas.Bool.{ne_eqb}
use Rattle.amm_dual.proofs.Numbers.{token_move-is, target_of}
use Rattle.amm_dual.proofs.moves.token_move.Goals as goal

pub returns-then-place-target : goal.returns-then-place-target
returns-then-place-target c =
    let test : nat_eq c.args.place (target_of c.args.problem.now) ≡ true = eq-eqb c.args.place (target_of c.args.problem.now) (c.if-place-target.true ∙ c.target.ensures.place) in
    sym (token_move-is c.args.problem.now c.args.place c.args.k c.args.up true test)

pub returns : goal.returns
returns c =
    let test : nat_eq c.args.place (target_of c.args.problem.now) ≡ false = ne_eqb c.args.place (target_of c.args.problem.now) (λ e. c.if-place-target.false (e ∙ sym c.target.ensures.place)) in
    sym (token_move-is c.args.problem.now c.args.place c.args.k c.args.up false test)
