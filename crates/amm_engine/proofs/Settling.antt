-- What is known of settlements: each that is due is accepted, and each that is accepted pays.
use Rattle.std.proofs.Common.{◌≡◌, ◌∙◌, ℕ, List, Ok, Err, Some, sym, ap, subst}
use Rattle.std.specs.Prelude.{ok_or}
use Rattle.amm_model.specs.declared.fault.Refusal.{Refusal}
use Rattle.amm_model.specs.declared.fault.Refusal.TheVariants as code
use Rattle.amm_model.specs.declared.route.Quote.{Quote}
use Rattle.amm_model.specs.declared.reply.Answer.{Answer}
use Rattle.amm_model.specs.declared.reply.Answer.TheVariants as answers
use Rattle.amm_model.specs.Outcome.{◌>>=◌, Made, Outcome}
use Rattle.amm_model.specs.Ledger.{Ledger, quote_of}
use Rattle.amm_model.specs.Settlement.{IsDue, settle}
use Rattle.amm_model.specs.Sound.{IsAtRest}
use Rattle.amm_model.specs.SplitAnswers.{IsSplitAnswer}
use Rattle.amm_model.specs.CommandView as command
use Rattle.amm_model.specs.CommandView.{CommandView, Move}
use Rattle.amm_model.specs.Meaning.{MayComeTo, meaning, as_answer}
use Rattle.amm_model.specs.Answers.{answer_of, ledger_after}
use Rattle.amm_model.specs.Runs.{SettlesQuotes, SettledBy}
use Rattle.amm_model.proofs.Guards.{given, same_answer, was_some}
use Rattle.amm_settle.proofs.Settled.{settle_due, settle_paid}
use Rattle.amm_script.proofs.Settlements.{quote_has}

-- a kept quote answers its problem
kept : (ledger : Ledger) (number : ℕ) (quote : Quote) → IsAtRest ledger → quote_of ledger.quotes number ≡ Some quote → IsSplitAnswer quote
kept ledger number quote rest there = quote_has IsSplitAnswer ledger.quotes number quote rest.sound.answers there

module _ (old : Ledger) (actor : List ℕ) (number deadline : ℕ) (rest : IsAtRest old) where
  -- a settlement that is due
  due_settles : (quote : Quote) (outcome : Outcome Answer) → quote_of old.quotes number ≡ Some quote → IsDue old actor quote deadline
      → meaning old actor (command.settle number deadline) ≡ outcome → answer_of outcome ≡ answers.Settle quote.delivered
  unfolding meaning
  due_settles quote outcome there due is =
      let split = kept old number quote rest there in
      let done = settle_due old actor quote deadline split.problem split.delivers due in
      let found : meaning old actor (command.settle number deadline) ≡ as_answer answers.Settle (settle old actor quote deadline)
      = ap (λ o. ok_or o code.NoQuote >>= (λ q. as_answer answers.Settle (settle old actor q deadline))) there in
      let told : as_answer answers.Settle (settle old actor quote deadline) ≡ Ok (record { ledger = done.0.ledger; answer = answers.Settle done.0.answer })
      = ap (as_answer answers.Settle) done.1 in
      ap answer_of (sym is ∙ found ∙ told) ∙ ap answers.Settle done.2

  -- one that is accepted
  accepted_settles : (made : Made Answer) → meaning old actor (command.settle number deadline) ≡ Ok made → SettlesQuotes actor number deadline made.answer old made.ledger
  unfolding meaning
  accepted_settles made is =
      let first = given (ok_or (quote_of old.quotes number) code.NoQuote) _ made is in
      let there = was_some (quote_of old.quotes number) code.NoQuote first.value first.was in
      let second = given (settle old actor first.value deadline) _ made first.after in
      let split = kept old number first.value rest there in
      let paid = settle_paid old actor first.value deadline second.value split.problem split.delivers second.was in
      let same = same_answer (record { ledger = second.value.ledger; answer = answers.Settle second.value.answer }) made second.after in
      subst (λ (k : Made Answer). SettlesQuotes actor number deadline k.answer old k.ledger) same (record {
        due = λ quote is_there due. ap (λ (k : Made Answer). k.answer) same ∙ due_settles quote (Ok made) is_there due is;
        paid = λ delivered told. (first.value, there, same_amount second.value.answer delivered told ∙ paid.0, paid.1);
      })
    where
      same_amount : (a b : ℕ) → answers.Settle a ≡ answers.Settle b → b ≡ a
      same_amount a b e = cc

  refused_settles : (why : Refusal) → meaning old actor (command.settle number deadline) ≡ Err why → SettlesQuotes actor number deadline (answers.Refused why) old old
  refused_settles why is = record {
    due = λ quote there due. due_settles quote (Err why) there due is;
    paid = λ delivered told. cc;
  }

  settles : (outcome : Outcome Answer) → meaning old actor (command.settle number deadline) ≡ outcome
      → SettlesQuotes actor number deadline (answer_of outcome) old (ledger_after old outcome)
  settles (Ok made) is = accepted_settles made is
  settles (Err why) is = refused_settles why is

step_settled : (old : Ledger) (actor : List ℕ) (step : Move) (outcome : Outcome Answer) → IsAtRest old → meaning old actor step ≡ outcome
    → SettledBy (command.act actor step) (answer_of outcome) old (ledger_after old outcome)
step_settled old actor (command.settle number deadline) outcome rest is = settles old actor number deadline rest outcome is
step_settled old actor (command.transfer asset to n) outcome rest is = tt
step_settled old actor (command.create a b fee) outcome rest is = tt
step_settled old actor (command.mint p to) outcome rest is = tt
step_settled old actor (command.burn p to) outcome rest is = tt
step_settled old actor (command.swap p out0 out1 to) outcome rest is = tt
step_settled old actor (command.skim p to) outcome rest is = tt
step_settled old actor (command.sync p) outcome rest is = tt
step_settled old actor (command.flash p out0 out1 steps) outcome rest is = tt
step_settled old actor (command.add want to deadline) outcome rest is = tt
step_settled old actor (command.remove want to deadline) outcome rest is = tt
step_settled old actor (command.swap_in path x least to deadline) outcome rest is = tt
step_settled old actor (command.swap_out path y most to deadline) outcome rest is = tt

-- a command, if it is a settlement
pub settled : (old : Ledger) (asked : CommandView) (outcome : Outcome Answer) → IsAtRest old → MayComeTo old asked outcome
    → SettledBy asked (answer_of outcome) old (ledger_after old outcome)
unfolding MayComeTo
settled old (command.act actor step) outcome rest comes = step_settled old actor step outcome rest comes
settled old (command.deposit user token n) outcome rest comes = tt
settled old (command.withdraw user token n) outcome rest comes = tt
settled old (command.time n) outcome rest comes = tt
settled old (command.fee_to actor to) outcome rest comes = tt
settled old (command.setter actor to) outcome rest comes = tt
settled old (command.quote_out path n) outcome rest comes = tt
settled old (command.quote_in path n) outcome rest comes = tt
settled old (command.split s t d) outcome rest comes = tt
settled old (command.certificate number) outcome rest comes = tt
settled old (command.pool p) outcome rest comes = tt
settled old (command.balance asset holder) outcome rest comes = tt
settled old (command.total asset) outcome rest comes = tt
settled old (command.observe actor p) outcome rest comes = tt
settled old (command.average first second) outcome rest comes = tt
settled old (command.consult first second token n) outcome rest comes = tt
settled old (command.window p seconds) outcome rest comes = tt
settled old (command.basket actor parts t min deadline) outcome rest comes = tt
settled old (command.cycle actor t deadline) outcome rest comes = tt
