-- Which move each step is.
use Rattle.std.proofs.Common.{◌≡◌, ℕ, List, Vec, Global, rules}
use Rattle.amm_names.specs.declared.holder.Holder.{Holder}
use Rattle.amm_model.specs.declared.command.Step.{Step, the_lemmas}
use Rattle.amm_model.specs.declared.command.Step as steps
use Rattle.amm_model.specs.CommandView as view
use Rattle.amm_model.specs.CommandView.{move_of_step, moves_of_steps}

pub move_of-Mint : (pool : List ℕ) (to : Holder) → move_of_step (steps.Mint pool to) ≡ view.mint pool to
move_of-Mint pool to = search (rules, the_lemmas)

pub move_of-Burn : (pool : List ℕ) (to : Holder) → move_of_step (steps.Burn pool to) ≡ view.burn pool to
move_of-Burn pool to = search (rules, the_lemmas)

pub move_of-Skim : (pool : List ℕ) (to : Holder) → move_of_step (steps.Skim pool to) ≡ view.skim pool to
move_of-Skim pool to = search (rules, the_lemmas)

pub move_of-Flash : (pool : List ℕ) (out0 out1 : ℕ) (inside : Vec Step Global) → move_of_step (steps.Flash pool out0 out1 inside) ≡ view.flash pool out0 out1 (moves_of_steps inside.items)
move_of-Flash pool out0 out1 inside = search (rules, the_lemmas)
