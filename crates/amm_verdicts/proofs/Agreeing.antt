-- From ledgers that differ in their quotes alone, a command that settles none is refused in both by
-- the same code, or leaves such ledgers in both.
use Rattle.std.proofs.Common.{◌≡◌, ◌∙◌, ◌==◌, ℕ, zero, suc, List, [], ◌∷◌, not, nat_le, length, Option, Some, None, Result, Ok, Err, refl, sym, ap, subst, arith}
use Rattle.std.specs.Prelude.{MatchResult, ok_or, slice_get}
use Rattle.std.specs.Option.{is_some}
use Rattle.std.specs.Str.{bytes_eq}
use Rattle.std.proofs.lemmas.List.{length-append}
use Rattle.amm_names.specs.declared.holder.Asset.TheVariants as assets
use Rattle.amm_names.specs.declared.holder.Holder.TheVariants as holders
use Rattle.amm_names.specs.Names.{Name}
use Rattle.amm_model.specs.declared.fault.Refusal.{Refusal}
use Rattle.amm_model.specs.declared.fault.Refusal.TheVariants as code
use Rattle.amm_model.specs.declared.limits.TheConstants.{QUOTE_LIMIT, OBSERVATION_LIMIT}
use Rattle.amm_model.specs.declared.reply.Answer.{Answer}
use Rattle.amm_model.specs.declared.reply.Answer.TheVariants as answers
use Rattle.amm_model.specs.declared.route.Quote.{Quote}
use Rattle.amm_model.specs.CommandView as command
use Rattle.amm_model.specs.CommandView.{CommandView}
use Rattle.amm_model.specs.Factory.{set_fee_to, set_setter}
use Rattle.amm_model.specs.Ledger.{Ledger, balance, is_listed, observation_at, pair_of, quote_of, total, with_quote}
use Rattle.amm_model.specs.Meaning.{MayComeTo, deposit, known_asset, meaning, observe_answer, outcome_with, pool_answer, query, withdraw}
use Rattle.amm_model.specs.Operations.{sync}
use Rattle.amm_model.specs.Oracle.{add_observation, average, consult, observe, window}
use Rattle.amm_model.specs.Outcome.{Made, Outcome, refuse_if}
use Rattle.amm_model.specs.Postings.{issue, list_token, retire, set_time}
use Rattle.amm_model.specs.Router.{amounts_in, amounts_out}
use Rattle.amm_model.specs.SplitAnswers.{HasNoRoute}
use Rattle.amm_model.specs.Splits.{Routes, may_split}
use Rattle.amm_model.proofs.Guards.{same_answer}
use Rattle.amm_verdicts.specs.NoRoute.{TakesNoRoute}
use Rattle.amm_verdicts.specs.Verdicts.{refusal_in}
use Rattle.amm_verdicts.proofs.OneMarket.{one_market}
use Rattle.amm_verdicts.proofs.Requoted.{fee_to_same, issue_same, list_same, made_with, outcome_having, retire_same, setter_same, sync_same, then_made, then_same, time_same, with_quotes}
use Rattle.amm_verdicts.proofs.Router.{both_then, in_same, out_same}
use Rattle.amm_verdicts.proofs.Steps.{known_same, step_same, told_with}

-- two ledgers that differ in their quotes alone, of which they have as many
pub record Alike (one two : Ledger) : Type 0 where
  pub same : with_quotes one two.quotes ≡ two
  pub as_many : length two.quotes ≡ length one.quotes

-- outcomes that are refused alike, or leave such ledgers
abbrev pub Agree : Outcome Answer → Outcome Answer → Type 0
Agree (Ok one) (Ok two) = Alike one.ledger two.ledger × (refusal_in one.answer ≡ refusal_in two.answer)
Agree (Err why) (Err other) = why ≡ other
Agree _ _ = ⊥

-- ---- commands that are functions

module _ (quotes : List Quote) where
  found_same : {A : Type 0} (l : Ledger) (form : A → Answer) (first second : Result A Refusal) → second ≡ first → query (with_quotes l quotes) form second ≡ outcome_having quotes (query l form first)
  found_same l form first second is = ap (λ r. query (with_quotes l quotes) form r) is ∙ then_same quotes first _ _ (λ _. refl)

  deposit_same : (l : Ledger) (user token : Name) (n : ℕ) → deposit (with_quotes l quotes) user token n ≡ outcome_having quotes (deposit l user token n)
  unfolding deposit
  deposit_same l user token n =
      then_made quotes (list_token l token) _ _ _ (list_same quotes l token) (λ listed.
      then_made quotes (issue listed.ledger (assets.Token token) (holders.User user) n) _ _ _ (issue_same quotes listed.ledger (assets.Token token) (holders.User user) n) (λ _. refl))

  withdraw_same : (l : Ledger) (user token : Name) (n : ℕ) → withdraw (with_quotes l quotes) user token n ≡ outcome_having quotes (withdraw l user token n)
  unfolding withdraw known_asset
  withdraw_same l user token n =
      then_same quotes (known_asset l (assets.Token token)) _ _ (λ _.
      then_made quotes (retire l (assets.Token token) (holders.User user) n) _ _ _ (retire_same quotes l (assets.Token token) (holders.User user) n) (λ _. refl))

  observe_same : (l : Ledger) (pool : Name) → observe (with_quotes l quotes) pool ≡ outcome_having quotes (observe l pool)
  unfolding observe add_observation
  observe_same l pool =
      then_made quotes (sync l pool) _ _ _ (sync_same quotes l pool) (λ synced.
      then_same quotes (refuse_if (nat_le OBSERVATION_LIMIT (length synced.ledger.observations)) code.ObservationLimit) _ _ (λ _. refl))

  observed_same : (l : Ledger) (pool : Name) → observe_answer (observe (with_quotes l quotes) pool) ≡ outcome_having quotes (observe_answer (observe l pool))
  observed_same l pool =
      then_made quotes (observe l pool) _ _ _ (observe_same l pool) (λ made.
      then_same quotes (ok_or (observation_at made.ledger.observations made.answer) code.NoObservation) _ _ (λ _. refl))

  average_same : (l : Ledger) (i j : ℕ) → average (with_quotes l quotes) i j ≡ average l i j
  unfolding average
  average_same l i j = refl

  consult_same : (l : Ledger) (i j : ℕ) (token : Name) (n : ℕ) → consult (with_quotes l quotes) i j token n ≡ consult l i j token n
  unfolding consult
  consult_same l i j token n = refl

  window_same : (l : Ledger) (pool : Name) (seconds : ℕ) → window (with_quotes l quotes) pool seconds ≡ window l pool seconds
  unfolding window
  window_same l pool seconds = refl

-- ---- two outcomes

module _ (l : Ledger) (quotes : List Quote) (many : length quotes ≡ length l.quotes) where
  by_outcome : (first second : Outcome Answer) → second ≡ outcome_having quotes first → first ≡ outcome_having l.quotes first → Agree first second
  by_outcome (Ok made) second is own =
      let kept : length made.ledger.quotes ≡ length l.quotes = ap (λ (m : Made Answer). length m.ledger.quotes) (same_answer made (made_with l.quotes made) own) in
      subst (Agree (Ok made)) (sym is) (record { same = refl; as_many = many ∙ sym kept }, refl)
  by_outcome (Err why) second is own = subst (Agree (Err why)) (sym is) refl

  -- what looks at no quotes
  by_function : (does : Ledger → Outcome Answer) (first second : Outcome Answer) → ((other : List Quote) → does (with_quotes l other) ≡ outcome_having other (does l)) →
      does l ≡ first → does (with_quotes l quotes) ≡ second → Agree first second
  by_function does first second same one two =
      subst (λ o. Agree o second) one (subst (Agree (does l)) two (by_outcome (does l) (does (with_quotes l quotes)) (same quotes) (same l.quotes)))

  -- ---- certificates

  both_there : (xs ys : List Quote) (place : ℕ) → length ys ≡ length xs → is_some (slice_get xs place) ≡ is_some (slice_get ys place)
  both_there [] [] place same = refl
  both_there [] (y ∷ ys) place same = absurd (omega (arith, same))
  both_there (x ∷ xs) [] place same = absurd (omega (arith, same))
  both_there (x ∷ xs) (y ∷ ys) zero same = refl
  both_there (x ∷ xs) (y ∷ ys) (suc place) same = both_there xs ys place (omega (arith, same))

  both_found : (number : ℕ) → is_some (quote_of l.quotes number) ≡ is_some (quote_of quotes number)
  both_found zero = refl
  both_found (suc before) = both_there l.quotes quotes before many

  told_both : (x y : Option Quote) → is_some x ≡ is_some y → Agree (query l answers.Certificate (ok_or x code.NoQuote)) (query (with_quotes l quotes) answers.Certificate (ok_or y code.NoQuote))
  told_both None None is = refl
  told_both None (Some y) is = cc
  told_both (Some x) None is = cc
  told_both (Some x) (Some y) is = (record { same = refl; as_many = many }, refl)

  -- ---- splits

  may_same : (s t : Name) (d : ℕ) → may_split (with_quotes l quotes) s t d ≡ may_split l s t d
  may_same s t d =
      both_then (refuse_if (bytes_eq s t) code.Identical) _ _ _ refl (λ _.
      both_then (refuse_if (not (is_listed l.tokens s)) code.UnknownToken) _ _ _ refl (λ _.
      both_then (refuse_if (not (is_listed l.tokens t)) code.UnknownToken) _ _ _ refl (λ _.
      both_then (refuse_if (d == 0) code.ZeroAmount) _ _ _ refl (λ _.
      ap (λ n. refuse_if (nat_le QUOTE_LIMIT n) code.QuoteLimit) many))))

  both_keep : (x y : Quote) → Alike (with_quote l x) (with_quote (with_quotes l quotes) y)
  both_keep x y = record { same = refl; as_many = omega (arith, many, length-append l.quotes (x ∷ []), length-append quotes (y ∷ [])) }

  split_agrees : (s t : Name) (d : ℕ) (may : Result (Unit {0}) Refusal) (first second : Outcome Answer)
      → MatchResult may (λ _. Routes l s t d first) (λ why. first ≡ Err why) → MatchResult may (λ _. Routes (with_quotes l quotes) s t d second) (λ why. second ≡ Err why)
      → Agree first second
  split_agrees s t d (Err why) first second one two = subst (λ o. Agree o second) (sym one) (subst (Agree (Err why)) (sym two) refl)
  split_agrees s t d (Ok may) (Ok first) (Ok second) one two = (
    subst (λ (k : Ledger). Alike k second.ledger) (sym one.kept) (subst (Alike (with_quote l one.quote)) (sym two.kept) (both_keep one.quote two.quote)),
    ap refusal_in one.told ∙ sym (ap refusal_in two.told),
  )
  split_agrees s t d (Ok may) (Ok first) (Err why) one two =
      absurd (one.some (subst HasNoRoute (sym (one_market l quotes s t d one.quote.problem two.1.problem one.problem two.1.is)) two.1.none))
  split_agrees s t d (Ok may) (Err why) (Ok second) one two =
      absurd (two.some (subst HasNoRoute (one_market l quotes s t d one.1.problem two.quote.problem one.1.is two.problem) one.1.none))
  split_agrees s t d (Ok may) (Err why) (Err second) one two = one.0 ∙ sym two.0

  -- ---- commands

  pub command_agrees : (asked : CommandView) (first second : Outcome Answer) → TakesNoRoute asked → MayComeTo l asked first → MayComeTo (with_quotes l quotes) asked second
      → Agree first second
  unfolding MayComeTo
  command_agrees (command.deposit user token n) first second none one two = by_function (λ k. deposit k user token n) first second (λ qs. deposit_same qs l user token n) one two
  command_agrees (command.withdraw user token n) first second none one two = by_function (λ k. withdraw k user token n) first second (λ qs. withdraw_same qs l user token n) one two
  command_agrees (command.time n) first second none one two =
      by_function (λ k. outcome_with answers.Time (set_time k n)) first second (λ qs. told_with qs answers.Time (set_time l n) _ (time_same qs l n)) one two
  command_agrees (command.fee_to actor to) first second none one two =
      by_function (λ k. outcome_with answers.FeeTo (set_fee_to k actor to)) first second (λ qs. told_with qs answers.FeeTo (set_fee_to l actor to) _ (fee_to_same qs l actor to)) one two
  command_agrees (command.setter actor to) first second none one two =
      by_function (λ k. outcome_with answers.Setter (set_setter k actor to)) first second (λ qs. told_with qs answers.Setter (set_setter l actor to) _ (setter_same qs l actor to)) one two
  command_agrees (command.quote_out path n) first second none one two =
      by_function (λ k. query k answers.QuoteOut (amounts_out k path n)) first second (λ qs. found_same qs l answers.QuoteOut (amounts_out l path n) _ (out_same qs l path n)) one two
  command_agrees (command.quote_in path n) first second none one two =
      by_function (λ k. query k answers.QuoteIn (amounts_in k path n)) first second (λ qs. found_same qs l answers.QuoteIn (amounts_in l path n) _ (in_same qs l path n)) one two
  command_agrees (command.split s t d) first second none one two =
      split_agrees s t d (may_split l s t d) first second one
      (subst (λ may. MatchResult may (λ _. Routes (with_quotes l quotes) s t d second) (λ why. second ≡ Err why)) (may_same s t d) two)
  command_agrees (command.certificate number) first second none one two =
      subst (λ o. Agree o second) one (subst (Agree (query l answers.Certificate (ok_or (quote_of l.quotes number) code.NoQuote))) two
      (told_both (quote_of l.quotes number) (quote_of quotes number) (both_found number)))
  command_agrees (command.pool pool) first second none one two =
      by_function (λ k. query k (pool_answer k pool) (ok_or (pair_of k.pairs pool) code.NoPair)) first second
      (λ qs. found_same qs l (pool_answer l pool) (ok_or (pair_of l.pairs pool) code.NoPair) _ refl) one two
  command_agrees (command.balance asset holder) first second none one two =
      by_function (λ k. query k (λ _. answers.Balance (balance k asset holder)) (known_asset k asset)) first second
      (λ qs. found_same qs l (λ _. answers.Balance (balance l asset holder)) (known_asset l asset) _ (known_same qs l asset)) one two
  command_agrees (command.total asset) first second none one two =
      by_function (λ k. query k (λ _. answers.Total (total k asset)) (known_asset k asset)) first second
      (λ qs. found_same qs l (λ _. answers.Total (total l asset)) (known_asset l asset) _ (known_same qs l asset)) one two
  command_agrees (command.observe actor pool) first second none one two = by_function (λ k. observe_answer (observe k pool)) first second (λ qs. observed_same qs l pool) one two
  command_agrees (command.average i j) first second none one two =
      by_function (λ k. query k answers.Average (average k i j)) first second (λ qs. found_same qs l answers.Average (average l i j) _ (average_same qs l i j)) one two
  command_agrees (command.consult i j token n) first second none one two =
      by_function (λ k. query k answers.Consult (consult k i j token n)) first second (λ qs. found_same qs l answers.Consult (consult l i j token n) _ (consult_same qs l i j token n)) one two
  command_agrees (command.window pool seconds) first second none one two =
      by_function (λ k. query k answers.Window (window k pool seconds)) first second (λ qs. found_same qs l answers.Window (window l pool seconds) _ (window_same qs l pool seconds)) one two
  command_agrees (command.basket actor parts t min deadline) first second none one two = absurd none
  command_agrees (command.cycle actor t deadline) first second none one two = absurd none
  command_agrees (command.act actor step) first second none one two =
      by_function (λ k. meaning k actor step) first second (λ qs. step_same qs step l actor none) one two
