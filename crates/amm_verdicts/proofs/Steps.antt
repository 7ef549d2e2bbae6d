-- What a step does that settles no quote looks at no quotes, and hands them on.
use Rattle.std.proofs.Common.{◌≡◌, ◌∙◌, ℕ, List, refl, ap}
use Rattle.amm_names.specs.declared.holder.Holder.{Holder}
use Rattle.amm_names.specs.declared.holder.Holder.TheVariants as holders
use Rattle.amm_names.specs.declared.holder.Asset.{Asset}
use Rattle.amm_names.specs.declared.holder.Asset.TheVariants as assets
use Rattle.amm_names.specs.Names.{Name}
use Rattle.amm_model.specs.declared.reply.Answer.{Answer}
use Rattle.amm_model.specs.declared.reply.Answer.TheVariants as answers
use Rattle.amm_model.specs.declared.route.Quote.{Quote}
use Rattle.amm_model.specs.CommandView as view
use Rattle.amm_model.specs.CommandView.{Move, Moves}
use Rattle.amm_model.specs.Factory.{create}
use Rattle.amm_model.specs.Ledger.{Ledger}
use Rattle.amm_model.specs.Meaning.{as_answer, known_asset, meaning, meaning_of_all, outcome_with, send, sync_reply}
use Rattle.amm_model.specs.Operations.{burn, give_back, lend, mint, skim, swap, sync}
use Rattle.amm_model.specs.Outcome.{◌>>=◌, Outcome}
use Rattle.amm_model.specs.Postings.{transfer}
use Rattle.amm_model.specs.Router.{add, exact_in, exact_out, remove}
use Rattle.amm_verdicts.specs.NoRoute.{SettleNone, SettlesNone}
use Rattle.amm_verdicts.proofs.Requoted.{burn_same, create_same, give_back_same, lend_same, mint_same, outcome_having, skim_same, swap_same, sync_same, then_made, then_same, transfer_same, with_quotes}
use Rattle.amm_verdicts.proofs.Router.{add_same, exact_in_same, exact_out_same, remove_same}

module _ (quotes : List Quote) where
  pub known_same : (l : Ledger) (asset : Asset) → known_asset (with_quotes l quotes) asset ≡ known_asset l asset
  unfolding known_asset
  known_same l (assets.Token token) = refl
  known_same l (assets.Share pool) = refl

  -- the answer in another form
  pub answered : {A : Type 0} (form : A → Answer) (first second : Outcome A) → second ≡ outcome_having quotes first → as_answer form second ≡ outcome_having quotes (as_answer form first)
  answered form first second is = then_made quotes first second _ _ is (λ _. refl)

  pub told_with : {A : Type 0} (answer : Answer) (first second : Outcome A) → second ≡ outcome_having quotes first → outcome_with answer second ≡ outcome_having quotes (outcome_with answer first)
  told_with answer first second is = then_made quotes first second _ _ is (λ _. refl)

  send_same : (l : Ledger) (actor : Name) (asset : Asset) (to : Holder) (n : ℕ) → send (with_quotes l quotes) actor asset to n ≡ outcome_having quotes (send l actor asset to n)
  unfolding send
  send_same l actor asset to n =
      ap (λ known. known >>= (λ _. outcome_with answers.Transfer (transfer (with_quotes l quotes) asset (holders.User actor) to n))) (known_same l asset)
      ∙ then_same quotes (known_asset l asset) _ _ (λ _. told_with answers.Transfer (transfer l asset (holders.User actor) to n) _ (transfer_same quotes l asset (holders.User actor) to n))

  mutual
    unfolding meaning meaning_of_all

    pub step_same : (m : Move) (l : Ledger) (actor : Name) → SettlesNone m → meaning (with_quotes l quotes) actor m ≡ outcome_having quotes (meaning l actor m)
    step_same (view.transfer asset to n) l actor none = send_same l actor asset to n
    step_same (view.create a b fee) l actor none = answered answers.Create (create l a b fee) _ (create_same quotes l a b fee)
    step_same (view.mint pool to) l actor none = answered answers.Mint (mint l pool to) _ (mint_same quotes l pool to)
    step_same (view.burn pool to) l actor none = answered answers.Burn (burn l pool to) _ (burn_same quotes l pool to)
    step_same (view.swap pool out0 out1 to) l actor none = answered answers.Swap (swap l pool out0 out1 to) _ (swap_same quotes l pool out0 out1 to)
    step_same (view.skim pool to) l actor none = answered answers.Skim (skim l pool to) _ (skim_same quotes l pool to)
    step_same (view.sync pool) l actor none = answered sync_reply (sync l pool) _ (sync_same quotes l pool)
    step_same (view.flash pool out0 out1 steps) l actor none =
        then_made quotes (lend l pool out0 out1 (holders.User actor)) _ _ _ (lend_same quotes l pool out0 out1 (holders.User actor)) (λ lent.
        then_made quotes (meaning_of_all lent.ledger actor steps) _ _ _ (steps_same steps lent.ledger actor none) (λ ran.
        answered answers.Flash (give_back ran.ledger pool out0 out1) _ (give_back_same quotes ran.ledger pool out0 out1)))
    step_same (view.add want to deadline) l actor none = answered answers.Add (add l actor want to deadline) _ (add_same quotes l actor want to deadline)
    step_same (view.remove want to deadline) l actor none = answered answers.Remove (remove l actor want to deadline) _ (remove_same quotes l actor want to deadline)
    step_same (view.swap_in path x least to deadline) l actor none =
        answered answers.SwapIn (exact_in l actor path x least to deadline) _ (exact_in_same quotes l actor path x least to deadline)
    step_same (view.swap_out path y most to deadline) l actor none =
        answered answers.SwapOut (exact_out l actor path y most to deadline) _ (exact_out_same quotes l actor path y most to deadline)
    step_same (view.settle number deadline) l actor none = absurd none

    -- so do steps one after another
    pub steps_same : (ms : Moves) (l : Ledger) (actor : Name) → SettleNone ms → meaning_of_all (with_quotes l quotes) actor ms ≡ outcome_having quotes (meaning_of_all l actor ms)
    steps_same view.no_moves l actor none = refl
    steps_same (view.move m ms) l actor none =
        then_made quotes (meaning l actor m) _ _ _ (step_same m l actor none.0) (λ made. steps_same ms made.ledger actor none.1)
