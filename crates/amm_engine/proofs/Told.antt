-- The answers of accepted steps are no refusals, can be written, and are no splits.
use Rattle.std.proofs.Common.{◌≡◌, ◌≢◌, ℕ, List, Ok, subst}
use Rattle.std.specs.Prelude.{ok_or}
use Rattle.amm_names.specs.declared.holder.Holder.{Holder}
use Rattle.amm_names.specs.declared.holder.Holder.TheVariants as holders
use Rattle.amm_names.specs.declared.holder.Asset.{Asset}
use Rattle.amm_model.specs.declared.fault.Refusal.{Refusal}
use Rattle.amm_model.specs.declared.fault.Refusal.TheVariants as code
use Rattle.amm_model.specs.declared.reply.Answer.{Answer}
use Rattle.amm_model.specs.declared.reply.Answer.TheVariants as answers
use Rattle.amm_model.specs.Outcome.{Made, Outcome}
use Rattle.amm_model.specs.Ledger.{Ledger, quote_of}
use Rattle.amm_model.specs.Postings.{transfer}
use Rattle.amm_model.specs.Operations.{sync, skim, swap, mint, burn, lend, give_back}
use Rattle.amm_model.specs.Factory.{create}
use Rattle.amm_model.specs.Router.{add, remove, exact_in, exact_out}
use Rattle.amm_model.specs.CommandView as view
use Rattle.amm_model.specs.CommandView.{Move}
use Rattle.amm_model.specs.Meaning.{known_asset, send, sync_reply, meaning, meaning_of_all, as_answer, outcome_with}
use Rattle.amm_model.specs.ReplyText.{CanBeWritten}
use Rattle.amm_model.specs.Runs.{IsUnbeaten}
use Rattle.amm_model.specs.Settlement.{settle}
use Rattle.amm_model.proofs.Guards.{given, same_answer}

-- the answer is one of an accepted command, can be written, and no route beats it
pub record IsAccepted (answer : Answer) : Type 0 where
  pub accepted : (why : Refusal) → answer ≢ answers.Refused why
  pub written : CanBeWritten answer
  pub unbeaten : IsUnbeaten answer

-- an operation whose answer is told in one way or another
told_as : {A : Type 0} (form : A → Answer) (outcome : Outcome A) (made : Made Answer) → ((x : A) → IsAccepted (form x)) → as_answer form outcome ≡ Ok made → IsAccepted made.answer
told_as form outcome made each is =
    let first = given outcome _ made is in
    subst (λ (k : Made Answer). IsAccepted k.answer) (same_answer _ made first.after) (each first.value.answer)

-- an operation that has nothing to tell
pub told_plain : {A : Type 0} (answer : Answer) (outcome : Outcome A) (made : Made Answer) → IsAccepted answer → outcome_with answer outcome ≡ Ok made → IsAccepted made.answer
told_plain answer outcome made one is =
    let first = given outcome _ made is in
    subst (λ (k : Made Answer). IsAccepted k.answer) (same_answer _ made first.after) one

sent_told : (old : Ledger) (actor : List ℕ) (asset : Asset) (to : Holder) (n : ℕ) (made : Made Answer) → send old actor asset to n ≡ Ok made → IsAccepted made.answer
unfolding send
sent_told old actor asset to n made is =
    let first = given (known_asset old asset) _ made is in
    told_plain answers.Transfer (transfer old asset (holders.User actor) to n) made (record { accepted = λ why e. cc; written = tt; unbeaten = tt }) first.after

pub step_told : (old : Ledger) (actor : List ℕ) (step : Move) (made : Made Answer) → meaning old actor step ≡ Ok made → IsAccepted made.answer
unfolding meaning
step_told old actor (view.transfer asset to n) made is = sent_told old actor asset to n made is
step_told old actor (view.create a b fee) made is = told_as answers.Create (create old a b fee) made (λ x. record { accepted = λ why e. cc; written = tt; unbeaten = tt }) is
step_told old actor (view.mint p to) made is = told_as answers.Mint (mint old p to) made (λ x. record { accepted = λ why e. cc; written = tt; unbeaten = tt }) is
step_told old actor (view.burn p to) made is = told_as answers.Burn (burn old p to) made (λ x. record { accepted = λ why e. cc; written = tt; unbeaten = tt }) is
step_told old actor (view.swap p out0 out1 to) made is = told_as answers.Swap (swap old p out0 out1 to) made (λ x. record { accepted = λ why e. cc; written = tt; unbeaten = tt }) is
step_told old actor (view.skim p to) made is = told_as answers.Skim (skim old p to) made (λ x. record { accepted = λ why e. cc; written = tt; unbeaten = tt }) is
step_told old actor (view.sync p) made is = told_as sync_reply (sync old p) made (λ x. record { accepted = λ why e. cc; written = tt; unbeaten = tt }) is
step_told old actor (view.flash p out0 out1 steps) made is =
    let lent = given (lend old p out0 out1 (holders.User actor)) _ made is in
    let ran = given (meaning_of_all lent.value.ledger actor steps) _ made lent.after in
    told_as answers.Flash (give_back ran.value.ledger p out0 out1) made (λ x. record { accepted = λ why e. cc; written = tt; unbeaten = tt }) ran.after
step_told old actor (view.add want to deadline) made is = told_as answers.Add (add old actor want to deadline) made (λ x. record { accepted = λ why e. cc; written = tt; unbeaten = tt }) is
step_told old actor (view.remove want to deadline) made is = told_as answers.Remove (remove old actor want to deadline) made (λ x. record { accepted = λ why e. cc; written = tt; unbeaten = tt }) is
step_told old actor (view.swap_in path x least to deadline) made is =
    told_as answers.SwapIn (exact_in old actor path x least to deadline) made (λ x. record { accepted = λ why e. cc; written = tt; unbeaten = tt }) is
step_told old actor (view.swap_out path y most to deadline) made is =
    told_as answers.SwapOut (exact_out old actor path y most to deadline) made (λ x. record { accepted = λ why e. cc; written = tt; unbeaten = tt }) is
step_told old actor (view.settle number deadline) made is =
    let quote = given (ok_or (quote_of old.quotes number) code.NoQuote) _ made is in
    told_as answers.Settle (settle old actor quote.value deadline) made (λ x. record { accepted = λ why e. cc; written = tt; unbeaten = tt }) quote.after
