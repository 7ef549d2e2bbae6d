use Rattle.std.proofs.Common.{[], ap, get_or, ◌∙◌, ◌≡◌, ℕ}
use Rattle.amm_model.specs.Legs.{after_legs}
use Rattle.amm_model.specs.Routing.{amount_given}
use Rattle.amm_model.proofs.Problems.{token_at}
use Rattle.amm_legs.proofs.progress.Progress.held_of_target.Goals as goal

pub returns : goal.returns
returns c =
    let problem = c.args.problem.now in
    let there = rw c.target.ensures.place at c.target.ensures.there in
    let held = c.requires.amounts c.target.result c.target.ensures.there in
    let token : get_or problem.tokens c.target.result [] ≡ problem.t = ap (λ (j : ℕ). get_or problem.tokens j []) c.target.ensures.place ∙ token_at problem.tokens problem.t there in
    held ∙ ap (after_legs problem.pools (amount_given problem) c.args.legs.now) token
