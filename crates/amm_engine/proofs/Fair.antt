-- What every accepted command keeps, and so every line.
use Rattle.std.proofs.Common.{◌≡◌, ◌≤◌, ◌∷◌, ◌∙◌, ℕ, List, [], Result, Ok, Err, sym, ap, subst, refl, arith}
use Rattle.std.specs.Prelude.{MatchResult, ok_or}
use Rattle.amm_names.specs.declared.holder.Holder.TheVariants as holders
use Rattle.amm_names.specs.declared.holder.Asset.TheVariants as assets
use Rattle.amm_model.specs.declared.fault.Refusal.{Refusal}
use Rattle.amm_model.specs.declared.fault.Refusal.TheVariants as code
use Rattle.amm_model.specs.declared.line.Line.TheVariants.{Whole, Long}
use Rattle.amm_model.specs.declared.reply.Answer.{Answer}
use Rattle.amm_model.specs.declared.reply.Answer.TheVariants as answers
use Rattle.amm_model.specs.declared.reply.Reply.{Reply}
use Rattle.amm_model.specs.declared.route.Quote.{Quote}
use Rattle.amm_model.specs.Outcome.{Made, Outcome}
use Rattle.amm_model.specs.Ledger.{Ledger, observation_at, pair_of, quote_of, with_quote}
use Rattle.amm_model.specs.Postings.{list_token, issue, retire, set_time}
use Rattle.amm_model.specs.Routing.{delivered_by, open_view}
use Rattle.amm_model.specs.Sound.{IsSound, IsAtRest}
use Rattle.amm_model.specs.SplitAnswers.{IsSplitAnswer}
use Rattle.amm_model.specs.Splits.{KeepsQuote, Routes, may_split}
use Rattle.amm_model.specs.Fits.{Fits}
use Rattle.amm_model.specs.Factory.{set_fee_to, set_setter}
use Rattle.amm_model.specs.Oracle.{average, consult, observe, window}
use Rattle.amm_model.specs.Router.{amounts_out, amounts_in}
use Rattle.amm_model.specs.Laws.{ZeroKept, TokenTotalsKept}
use Rattle.amm_model.specs.CommandView as command
use Rattle.amm_model.specs.CommandView.{CommandView}
use Rattle.amm_model.specs.Meaning.{MayComeTo, known_asset, deposit, withdraw, query, pool_answer, outcome_with, observe_answer}
use Rattle.amm_model.specs.Answers.{ComesTo, answer_of, ledger_after}
use Rattle.amm_model.specs.Reading.{command_of_line}
use Rattle.amm_model.specs.Runs.{FairStep, IsUnbeaten, OfCommand, SettledBy, Step, TradedBy, one_reply, TotalsMoved, TotalsMovedBy}
use Rattle.amm_bound.proofs.Law.{no_route_beats_bound}
use Rattle.amm_model.proofs.Certifiable.{split_writable}
use Rattle.amm_model.proofs.Guards.{given, same_answer, was_some}
use Rattle.amm_model.proofs.Keeping.{Keeps, plain_keeps, rest_kept}
use Rattle.amm_model.proofs.Laters.{kept_rest}
use Rattle.amm_model.proofs.PlainSound.{list_listed, list_plain, list_rest, list_totals, issue_plain, issue_rest, issue_deposited, retire_plain, retire_rest, retire_withdrawn, set_time_plain, set_time_sound, set_time_totals}
use Rattle.amm_factory.proofs.Settings.{set_fee_to_keeps, set_fee_to_sound, set_setter_keeps, set_setter_sound}
use Rattle.amm_oracle.proofs.Observed.{observe_rest, observe_totals, observe_zero}
use Rattle.amm_model.proofs.Fitting.{reads_fitting}
use Rattle.amm_script.proofs.Laws.{step_kept}
use Rattle.amm_script.proofs.Settlements.{quote_has}
use Rattle.amm_engine.proofs.KeptQuotes.{rest_with, room_for_quote}
use Rattle.amm_engine.proofs.Settling.{settled}
use Rattle.amm_engine.proofs.Trades.{Trades, basket_trades, cycle_trades}
use Rattle.amm_engine.proofs.Told.{IsAccepted, step_told}

-- What holds after a command that was accepted.
pub record Promised (asked : CommandView) (old new : Ledger) (answer : Answer) : Type 0 where
  pub rest : IsAtRest new
  pub zero : ZeroKept old new
  pub totals : TotalsMoved asked answer old new
  pub told : IsAccepted answer

-- what leaves the totals of tokens alone
promised_by : (asked : CommandView) (old : Ledger) (made : Made Answer) → IsAtRest old → Keeps old made.ledger → (IsSound old → IsSound made.ledger)
    → (TokenTotalsKept old made.ledger → TotalsMoved asked made.answer old made.ledger) → IsAccepted made.answer → Promised asked old made.ledger made.answer
promised_by asked old made rest keeps sound totals told = record {
  rest = rest_kept old made.ledger rest keeps.no_other (sound rest.sound);
  zero = keeps.zero;
  totals = totals keeps.totals;
  told = told;
}

deposit_promised : (old : Ledger) (user token : List ℕ) (n : ℕ) (made : Made Answer) → IsAtRest old → deposit old user token n ≡ Ok made
    → Promised (command.deposit user token n) old made.ledger made.answer
unfolding deposit
deposit_promised old user token n made rest is =
    let first = given (list_token old token) _ made is in
    let mid : Ledger = first.value.ledger in
    let second = given (issue mid (assets.Token token) (holders.User user) n) _ made first.after in
    let paid = issue_deposited mid token (holders.User user) n second.value second.was in
    let same = list_totals old token first.value first.was in
    let one = list_plain old token first.value first.was in
    let two = issue_plain mid token (holders.User user) n second.value second.was in
    let here = (list_listed old token first.value first.was).here in
    subst (λ (k : Made Answer). Promised (command.deposit user token n) old k.ledger k.answer) (same_answer _ made second.after) (record {
      rest = issue_rest mid token (holders.User user) n second.value second.was here (list_rest old token first.value first.was rest);
      zero = λ q. omega (arith, one.zero q, two.zero q);
      totals = record { here = omega (arith, paid.here, same token); others = λ other apart. paid.others other apart ∙ same other };
      told = record { accepted = λ why e. cc; written = tt; unbeaten = tt };
    })

withdraw_promised : (old : Ledger) (user token : List ℕ) (n : ℕ) (made : Made Answer) → IsAtRest old → withdraw old user token n ≡ Ok made
    → Promised (command.withdraw user token n) old made.ledger made.answer
unfolding withdraw
withdraw_promised old user token n made rest is =
    let first = given (known_asset old (assets.Token token)) _ made is in
    let second = given (retire old (assets.Token token) (holders.User user) n) _ made first.after in
    subst (λ (k : Made Answer). Promised (command.withdraw user token n) old k.ledger k.answer) (same_answer _ made second.after) (record {
      rest = retire_rest old token user n second.value second.was rest;
      zero = (retire_plain old token user n second.value second.was).zero;
      totals = retire_withdrawn old token user n second.value second.was;
      told = record { accepted = λ why e. cc; written = tt; unbeaten = tt };
    })

-- a query, where it may be answered, changes nothing
asked_only : {A : Type 0} (asked : CommandView) (old : Ledger) (first : Result A Refusal) (answer : A → Answer) (made : Made Answer) → IsAtRest old
    → ((x : A) → TotalsMoved asked (answer x) old old) → ((x : A) → first ≡ Ok x → IsAccepted (answer x)) → query old answer first ≡ Ok made
    → Promised asked old made.ledger made.answer
asked_only asked old first answer made rest totals accepted is =
    let found = given first _ made is in
    subst (λ (k : Made Answer). Promised asked old k.ledger k.answer) (same_answer _ made found.after)
    (record { rest = rest; zero = λ q. omega arith; totals = totals found.value; told = accepted found.value found.was })

-- what an operation that has nothing to tell leaves
plain_promised : {A : Type 0} (asked : CommandView) (answer : Answer) (old : Ledger) (outcome : Outcome A) (made : Made Answer) → IsAtRest old
    → ((done : Made A) → outcome ≡ Ok done → Keeps old done.ledger)
    → ((done : Made A) → outcome ≡ Ok done → IsSound old → IsSound done.ledger) → ((new : Ledger) → TokenTotalsKept old new → TotalsMoved asked answer old new) → IsAccepted answer
    → outcome_with answer outcome ≡ Ok made → Promised asked old made.ledger made.answer
plain_promised asked answer old outcome made rest keeps sound totals accepted is =
    let first = given outcome _ made is in
    let told : Made Answer = record { ledger = first.value.ledger; answer = answer } in
    subst (λ (k : Made Answer). Promised asked old k.ledger k.answer) (same_answer _ made first.after)
    (promised_by asked old told rest (keeps first.value first.was) (sound first.value first.was) (totals first.value.ledger) accepted)

-- what a kept quote leaves
quote_promised : (old : Ledger) (s t : List ℕ) (d : ℕ) (made : Made Answer) (ok : Unit {0}) → IsAtRest old → may_split old s t d ≡ Ok ok → KeepsQuote old s t d made
    → Promised (command.split s t d) old made.ledger made.answer
quote_promised old s t d made ok rest may keeps =
    let quote = keeps.quote in
    let split = keeps.split in
    subst (λ (l : Ledger). Promised (command.split s t d) old l made.answer) (sym keeps.kept)
    (subst (λ (a : Answer). Promised (command.split s t d) old (with_quote old quote) a) (sym keeps.told) (record {
      rest = rest_with old quote (room_for_quote old s t d ok may) split rest;
      zero = λ q. omega arith;
      totals = λ token. refl;
      told = record {
        accepted = λ why e. cc;
        written = split_writable quote split;
        unbeaten = λ route is_route. subst (λ (bound : ℕ). delivered_by (open_view quote.problem) route ≤ bound) (sym split.bound)
            (no_route_beats_bound (open_view quote.problem) quote.prices route split.problem split.settled.as_many split.settled.ranges is_route);
      };
    }))

split_promised : (old : Ledger) (s t : List ℕ) (d : ℕ) (made : Made Answer) (may : Result (Unit {0}) Refusal) → IsAtRest old → may_split old s t d ≡ may
    → MatchResult may (λ _. Routes old s t d (Ok made)) (λ why. Ok made ≡ Err why) → Promised (command.split s t d) old made.ledger made.answer
split_promised old s t d made (Ok ok) rest is comes = quote_promised old s t d made ok rest is comes
split_promised old s t d made (Err why) rest is comes = cc

certificate_accepted : (old : Ledger) (number : ℕ) (quote : Quote) → IsAtRest old → ok_or (quote_of old.quotes number) code.NoQuote ≡ Ok quote → IsAccepted (answers.Certificate quote)
certificate_accepted old number quote rest is =
    let there = was_some (quote_of old.quotes number) code.NoQuote quote is in
    record { accepted = λ why e. cc; written = split_writable quote (quote_has IsSplitAnswer old.quotes number quote rest.sound.answers there); unbeaten = tt }

-- what an observation leaves
observe_promised : (old : Ledger) (actor p : List ℕ) (made : Made Answer) → IsAtRest old → observe_answer (observe old p) ≡ Ok made
    → Promised (command.observe actor p) old made.ledger made.answer
observe_promised old actor p made rest is =
    let first = given (observe old p) _ made is in
    let kept = given (ok_or (observation_at first.value.ledger.observations first.value.answer) code.NoObservation) _ made first.after in
    subst (λ (k : Made Answer). Promised (command.observe actor p) old k.ledger k.answer) (same_answer _ made kept.after) (record {
      rest = observe_rest old p first.value first.was rest;
      zero = observe_zero old p first.value first.was;
      totals = observe_totals old p first.value first.was;
      told = record { accepted = λ why e. cc; written = tt; unbeaten = tt };
    })

-- what a basket and a cycle leave
trade_promised : (asked : CommandView) (old : Ledger) (made : Made Answer) → IsAtRest old → (TokenTotalsKept old made.ledger → TotalsMoved asked made.answer old made.ledger)
    → Trades asked old made.ledger made.answer → Promised asked old made.ledger made.answer
trade_promised asked old made rest totals trades = record {
  rest = kept_rest old made.ledger trades.kept rest;
  zero = trades.kept.zero;
  totals = totals trades.kept.later.totals;
  told = trades.told;
}

-- what every accepted command promises
pub promised : (old : Ledger) (asked : CommandView) (made : Made Answer) → Fits asked → IsAtRest old → MayComeTo old asked (Ok made) → Promised asked old made.ledger made.answer
unfolding MayComeTo
promised old (command.deposit user token n) made fits rest is = deposit_promised old user token n made rest is
promised old (command.withdraw user token n) made fits rest is = withdraw_promised old user token n made rest is
promised old (command.time n) made fits rest is =
    plain_promised (command.time n) answers.Time old (set_time old n) made rest
    (λ done was. plain_keeps old done.ledger (set_time_plain old n done was) (set_time_totals old n done was)) (λ done was sound. set_time_sound old n done was fits sound)
    (λ new same. same) (record { accepted = λ why e. cc; written = tt; unbeaten = tt }) is
promised old (command.fee_to actor to) made fits rest is =
    plain_promised (command.fee_to actor to) answers.FeeTo old (set_fee_to old actor to) made rest
    (set_fee_to_keeps old actor to) (set_fee_to_sound old actor to) (λ new same. same)
    (record { accepted = λ why e. cc; written = tt; unbeaten = tt }) is
promised old (command.setter actor to) made fits rest is =
    plain_promised (command.setter actor to) answers.Setter old (set_setter old actor to) made rest
    (set_setter_keeps old actor to) (set_setter_sound old actor to) (λ new same. same)
    (record { accepted = λ why e. cc; written = tt; unbeaten = tt }) is
promised old (command.pool p) made fits rest is =
    asked_only (command.pool p) old (ok_or (pair_of old.pairs p) code.NoPair) (pool_answer old p) made rest
    (λ x token. refl) (λ x was. record { accepted = λ why e. cc; written = tt; unbeaten = tt }) is
promised old (command.balance asset holder) made fits rest is =
    asked_only (command.balance asset holder) old (known_asset old asset) _ made rest (λ x token. refl) (λ x was. record { accepted = λ why e. cc; written = tt; unbeaten = tt }) is
promised old (command.total asset) made fits rest is =
    asked_only (command.total asset) old (known_asset old asset) _ made rest (λ x token. refl) (λ x was. record { accepted = λ why e. cc; written = tt; unbeaten = tt }) is
promised old (command.observe actor p) made fits rest is = observe_promised old actor p made rest is
promised old (command.average first second) made fits rest is =
    asked_only (command.average first second) old (average old first second) answers.Average made rest
    (λ x token. refl) (λ x was. record { accepted = λ why e. cc; written = tt; unbeaten = tt }) is
promised old (command.consult first second token n) made fits rest is =
    asked_only (command.consult first second token n) old (consult old first second token n) answers.Consult made rest
    (λ x name. refl) (λ x was. record { accepted = λ why e. cc; written = tt; unbeaten = tt }) is
promised old (command.window p seconds) made fits rest is =
    asked_only (command.window p seconds) old (window old p seconds) answers.Window made rest
    (λ x token. refl) (λ x was. record { accepted = λ why e. cc; written = tt; unbeaten = tt }) is
promised old (command.basket actor parts t min deadline) made fits rest is =
    trade_promised (command.basket actor parts t min deadline) old made rest (λ same. same) (basket_trades old actor parts t min deadline made rest is)
promised old (command.cycle actor t deadline) made fits rest is =
    trade_promised (command.cycle actor t deadline) old made rest (λ same. same) (cycle_trades old actor t deadline made rest is)
promised old (command.act actor step) made fits rest is =
    let kept = step_kept step old actor made fits.0 fits.1 is in record {
      rest = kept_rest old made.ledger kept rest;
      zero = kept.zero;
      totals = kept.later.totals;
      told = step_told old actor step made is;
    }
promised old (command.quote_out path n) made fits rest is =
    asked_only (command.quote_out path n) old (amounts_out old path n) answers.QuoteOut made rest
    (λ x token. refl) (λ x was. record { accepted = λ why e. cc; written = tt; unbeaten = tt }) is
promised old (command.quote_in path n) made fits rest is =
    asked_only (command.quote_in path n) old (amounts_in old path n) answers.QuoteIn made rest
    (λ x token. refl) (λ x was. record { accepted = λ why e. cc; written = tt; unbeaten = tt }) is
promised old (command.split s t d) made fits rest is = split_promised old s t d made (may_split old s t d) rest refl is
promised old (command.certificate number) made fits rest is =
    asked_only (command.certificate number) old (ok_or (quote_of old.quotes number) code.NoQuote) answers.Certificate made rest
    (λ x token. refl) (λ quote was. certificate_accepted old number quote rest was) is

-- what every accepted basket and cycle pays
traded : (old : Ledger) (asked : CommandView) (outcome : Outcome Answer) → IsAtRest old → MayComeTo old asked outcome → TradedBy asked (answer_of outcome) old (ledger_after old outcome)
unfolding MayComeTo
traded old (command.basket actor parts t min deadline) (Ok made) rest is = (basket_trades old actor parts t min deadline made rest is).traded
traded old (command.basket actor parts t min deadline) (Err why) rest is = tt
traded old (command.cycle actor t deadline) (Ok made) rest is = (cycle_trades old actor t deadline made rest is).traded
traded old (command.cycle actor t deadline) (Err why) rest is = tt
traded old (command.deposit user token n) outcome rest is = tt
traded old (command.withdraw user token n) outcome rest is = tt
traded old (command.time n) outcome rest is = tt
traded old (command.fee_to actor to) outcome rest is = tt
traded old (command.setter actor to) outcome rest is = tt
traded old (command.quote_out path n) outcome rest is = tt
traded old (command.quote_in path n) outcome rest is = tt
traded old (command.split s t d) outcome rest is = tt
traded old (command.certificate number) outcome rest is = tt
traded old (command.pool p) outcome rest is = tt
traded old (command.balance asset holder) outcome rest is = tt
traded old (command.total asset) outcome rest is = tt
traded old (command.observe actor p) outcome rest is = tt
traded old (command.average first second) outcome rest is = tt
traded old (command.consult first second token n) outcome rest is = tt
traded old (command.window p seconds) outcome rest is = tt
traded old (command.act actor step) outcome rest is = tt

-- ---- lines

same_head : {x y : Reply} → x ∷ [] ≡ y ∷ [] → x ≡ y
same_head e = cc e

only_answer : (n m : ℕ) (x y : Answer) → one_reply n x ≡ one_reply m y → x ≡ y
only_answer n m x y e = ap (λ (reply : Reply). reply.answer) (same_head e)

refused_totals : (asked : CommandView) (why : Refusal) (old : Ledger) → TotalsMoved asked (answers.Refused why) old old
refused_totals (command.deposit user token n) why old = λ name. refl
refused_totals (command.withdraw user token n) why old = λ name. refl
refused_totals (command.time n) why old = λ name. refl
refused_totals (command.balance asset holder) why old = λ name. refl
refused_totals (command.total asset) why old = λ name. refl
refused_totals (command.observe actor p) why old = λ name. refl
refused_totals (command.average first second) why old = λ name. refl
refused_totals (command.consult first second token n) why old = λ name. refl
refused_totals (command.window p seconds) why old = λ name. refl
refused_totals (command.basket actor parts t min deadline) why old = λ name. refl
refused_totals (command.cycle actor t deadline) why old = λ name. refl
refused_totals (command.act actor step) why old = λ name. refl
refused_totals (command.fee_to actor to) why old = λ name. refl
refused_totals (command.setter actor to) why old = λ name. refl
refused_totals (command.quote_out path n) why old = λ name. refl
refused_totals (command.quote_in path n) why old = λ name. refl
refused_totals (command.split s t d) why old = λ name. refl
refused_totals (command.certificate quote) why old = λ name. refl
refused_totals (command.pool p) why old = λ name. refl

-- what is kept by a line with this outcome, where its bytes were read so
record Sides (old : Ledger) (read : Result CommandView Refusal) (outcome : Outcome Answer) : Type 0 where
  rest : IsAtRest (ledger_after old outcome)
  refused : (why : Refusal) → answer_of outcome ≡ answers.Refused why → ledger_after old outcome ≡ old
  zero : ZeroKept old (ledger_after old outcome)
  totals : MatchResult read (λ asked. TotalsMoved asked (answer_of outcome) old (ledger_after old outcome)) (λ _. TokenTotalsKept old (ledger_after old outcome))
  settled : MatchResult read (λ asked. SettledBy asked (answer_of outcome) old (ledger_after old outcome)) (λ _. Unit {0})
  traded : MatchResult read (λ asked. TradedBy asked (answer_of outcome) old (ledger_after old outcome)) (λ _. Unit {0})
  unbeaten : IsUnbeaten (answer_of outcome)

-- the command of a line was tried
asked_sides : (old : Ledger) (asked : CommandView) (outcome : Outcome Answer) → Fits asked → IsAtRest old → MayComeTo old asked outcome → Sides old (Ok asked) outcome
asked_sides old asked (Ok made) fits rest comes =
    let k = promised old asked made fits rest comes in record {
      rest = k.rest;
      refused = λ why refusal. absurd (k.told.accepted why refusal);
      zero = k.zero;
      totals = k.totals;
      settled = settled old asked (Ok made) rest comes;
      traded = traded old asked (Ok made) rest comes;
      unbeaten = k.told.unbeaten;
    }
asked_sides old asked (Err why) fits rest comes = record {
  rest = rest;
  refused = λ other refusal. refl;
  zero = λ q. omega arith;
  totals = refused_totals asked why old;
  settled = settled old asked (Err why) rest comes;
  traded = traded old asked (Err why) rest comes;
  unbeaten = tt;
}

fair_by : (old : Ledger) (number : ℕ) (bytes : List ℕ) (read : Result CommandView Refusal) (outcome : Outcome Answer) → command_of_line bytes ≡ read
    → MatchResult read (λ asked. MayComeTo old asked outcome) (λ why. outcome ≡ Err why)
    → Sides old read outcome → FairStep old number (Whole bytes) (one_reply number (answer_of outcome)) (ledger_after old outcome)
unfolding ComesTo Step
fair_by old number bytes read outcome read_is comes sides =
    let new = ledger_after old outcome in
    let back = sym read_is in record {
      step = (outcome, subst (λ (r : Result CommandView Refusal). MatchResult r (λ asked. MayComeTo old asked outcome) (λ why. outcome ≡ Err why)) back comes, refl, refl);
      rest = sides.rest;
      refused = λ why one. sides.refused why (only_answer _ _ _ _ one);
      zero = sides.zero;
      totals = λ other one. subst (λ (a : Answer). TotalsMovedBy (Whole bytes) a old new) (only_answer _ _ _ _ one)
          (subst (λ (r : Result CommandView Refusal). MatchResult r (λ asked. TotalsMoved asked (answer_of outcome) old new) (λ _. TokenTotalsKept old new)) back sides.totals);
      settled = λ other one. subst (λ (a : Answer). OfCommand (Whole bytes) (λ asked. SettledBy asked a old new)) (only_answer _ _ _ _ one)
          (subst (λ (r : Result CommandView Refusal). MatchResult r (λ asked. SettledBy asked (answer_of outcome) old new) (λ _. Unit {0})) back sides.settled);
      traded = λ other one. subst (λ (a : Answer). OfCommand (Whole bytes) (λ asked. TradedBy asked a old new)) (only_answer _ _ _ _ one)
          (subst (λ (r : Result CommandView Refusal). MatchResult r (λ asked. TradedBy asked (answer_of outcome) old new) (λ _. Unit {0})) back sides.traded);
      unbeaten = λ other one. subst IsUnbeaten (only_answer _ _ _ _ one) sides.unbeaten;
    }

-- a line whose bytes are no command is a fair step
pub fair_unread : (old : Ledger) (number : ℕ) (bytes : List ℕ) (why : Refusal) → IsAtRest old → command_of_line bytes ≡ Err why
    → FairStep old number (Whole bytes) (one_reply number (answers.Refused why)) old
fair_unread old number bytes why rest is =
    fair_by old number bytes (Err why) (Err why) is refl
    (record { rest = rest; refused = λ other refusal. refl; zero = λ q. omega arith; totals = λ name. refl; settled = tt; traded = tt; unbeaten = tt })

-- a line whose bytes are a command is a fair step
pub fair_asked : (old : Ledger) (number : ℕ) (bytes : List ℕ) (asked : CommandView) (outcome : Outcome Answer) → IsAtRest old → command_of_line bytes ≡ Ok asked
    → MayComeTo old asked outcome → FairStep old number (Whole bytes) (one_reply number (answer_of outcome)) (ledger_after old outcome)
fair_asked old number bytes asked outcome rest is comes =
    fair_by old number bytes (Ok asked) outcome is comes (asked_sides old asked outcome (reads_fitting bytes asked is) rest comes)

-- a line that is too long is a fair step
pub fair_long : (old : Ledger) (number : ℕ) → IsAtRest old → FairStep old number Long (one_reply number (answers.Refused code.LongLine)) old
unfolding ComesTo Step
fair_long old number rest = record {
  step = (Err code.LongLine, refl, refl, refl);
  rest = rest;
  refused = λ why one. refl;
  zero = λ q. omega arith;
  totals = λ other one name. refl;
  settled = λ other one. tt;
  traded = λ other one. tt;
  unbeaten = λ other one. subst IsUnbeaten (only_answer _ _ _ _ one) tt;
}
