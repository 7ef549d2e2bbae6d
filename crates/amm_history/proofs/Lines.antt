-- What a line does to the time, the pairs and the observations: it sets the time and leaves the
-- pairs, or leaves the time, and the pairs read the same; and what was observed stays.
use Rattle.std.proofs.Common.{◌≡◌, ◌≤◌, ◌+◌, ◌%◌, ◌^◌, ◌++◌, ◌∷◌, [], ◌∙◌, ℕ, zero, suc, nat_lt, nat_le, not, Bool, true, false, List, length, add-one, Some, None, Result, Ok, Err, ◌⊎◌, inl, inr, refl, sym, ap, subst, arith}
use Rattle.std.specs.Prelude.{if◌then◌else◌, ok_or, slice_get, MatchResult}
use Rattle.std.proofs.lemmas.Option.{slice_get_past}
use Rattle.std.proofs.lemmas.Bool.Decides.{nat_tests}
use Rattle.amm_names.specs.Names.{Name}
use Rattle.amm_names.specs.declared.holder.Holder.{Holder}
use Rattle.amm_names.specs.declared.holder.Holder.TheVariants as holders
use Rattle.amm_names.specs.declared.holder.Asset.TheVariants as assets
use Rattle.amm_model.specs.declared.pair.PairRecord.{PairRecord}
use Rattle.amm_model.specs.declared.observation.Observation.{Observation}
use Rattle.amm_model.specs.declared.problem.Part.{Part}
use Rattle.amm_model.specs.declared.fault.Refusal.{Refusal}
use Rattle.amm_model.specs.declared.fault.Refusal.TheVariants as code
use Rattle.amm_model.specs.declared.limits.TheConstants.{TOKEN_LIMIT, OBSERVATION_LIMIT}
use Rattle.amm_model.specs.declared.line.Line.{Line}
use Rattle.amm_model.specs.declared.line.Line.TheVariants.{Blank, Whole, Long}
use Rattle.amm_model.specs.declared.reply.Answer.{Answer}
use Rattle.amm_model.specs.declared.reply.Answer.TheVariants as answers
use Rattle.amm_model.specs.declared.reply.Reply.{Reply}
use Rattle.amm_model.specs.Ledger.{Ledger, is_listed, pair_of, set_pair, with_fee_to, with_setter, with_quote, observation_at, with_observation, quote_of}
use Rattle.amm_model.specs.Outcome.{Made, Outcome, ledger_only}
use Rattle.amm_model.specs.Postings.{list_token, issue, retire, set_time}
use Rattle.amm_model.specs.Operations.{sync}
use Rattle.amm_model.specs.Factory.{set_fee_to, set_setter}
use Rattle.amm_model.specs.Router.{amounts_out, amounts_in}
use Rattle.amm_model.specs.CycleRuns.{Cycles, may_cycle}
use Rattle.amm_model.specs.Cycles.{nested_loans}
use Rattle.amm_model.specs.Sales.{Sells, may_sell}
use Rattle.amm_model.specs.Splits.{Routes, may_split}
use Rattle.amm_model.specs.Pools.{same_name}
use Rattle.amm_model.specs.Observations.{observation_of}
use Rattle.amm_model.specs.Oracle.{add_observation, observe, average, consult, window}
use Rattle.amm_model.specs.CommandView as command
use Rattle.amm_model.specs.CommandView.{CommandView}
use Rattle.amm_model.specs.Meaning.{MayComeTo, known_asset, deposit, withdraw, meaning, query, pool_answer, outcome_with, observe_answer}
use Rattle.amm_model.specs.Answers.{ComesTo, ledger_after}
use Rattle.amm_model.specs.Reading.{command_of_line}
use Rattle.amm_model.specs.Runs.{Step}
use Rattle.amm_model.proofs.Guards.{given, past_refusal, not_refused, same_answer, was_some}
use Rattle.amm_model.proofs.Names.{some_there, one_value, pair_of-set_here}
use Rattle.amm_model.proofs.PlainSound.{issue_added, one_more}
use Rattle.amm_model.proofs.Transfers.{retire_taken}
use Rattle.amm_history.proofs.Drifting.{Drifted, Drifts, drifts_same, drifts_then, drifts_pairs, drifts_rest, sync_at, sync_drifts}
use Rattle.amm_history.proofs.Moves.{legs_drifts, step_drifts}

-- the time is the same, and the pairs read the same
pub record Stands (old new : Ledger) : Type 0 where
  pub time : new.time ≡ old.time
  pub pairs : (pool : List ℕ) (was : PairRecord) → pair_of old.pairs pool ≡ Some was → Drifted old.time new.pairs pool was

-- the time is set, and the pairs are the same
pub record Sets (old new : Ledger) : Type 0 where
  pub time : old.time ≤ new.time
  pub pairs : new.pairs ≡ old.pairs

-- the numbers of what was observed
abbrev pub Remembers : Ledger → Ledger → Type 0
Remembers old new = (number : ℕ) (o : Observation) → observation_at old.observations number ≡ Some o → observation_at new.observations number ≡ Some o

-- what a line does
pub record Onward (old new : Ledger) : Type 0 where
  pub kept : Remembers old new
  pub moves : Stands old new ⊎ Sets old new

pub onward_drifts : (old new : Ledger) → Drifts old new → Onward old new
onward_drifts old new d = record {
  kept = λ number o is. ap (λ (os : List Observation). observation_at os number) d.observations ∙ is;
  moves = inl (record { time = d.time; pairs = d.pairs });
}

pub onward_same : (a : Ledger) → Onward a a
onward_same a = onward_drifts a a (drifts_same a)

-- ---- observations

stays_in : (xs ys : List Observation) (place : ℕ) (o : Observation) → slice_get xs place ≡ Some o → slice_get (xs ++ ys) place ≡ Some o
stays_in [] ys place o is = cc
stays_in (x ∷ xs) ys zero o is = is
stays_in (x ∷ xs) ys (suc place) o is = stays_in xs ys place o is

last_in : (xs : List Observation) (o : Observation) → slice_get (xs ++ o ∷ []) (length xs) ≡ Some o
last_in [] o = refl
last_in (x ∷ xs) o = last_in xs o

none_at : (xs : List Observation) → observation_at xs (length xs + 1) ≡ None
none_at xs = ap (observation_at xs) (add-one (length xs)) ∙ slice_get_past xs (length xs) (omega arith)

still_at : (xs ys : List Observation) (number : ℕ) (o : Observation) → observation_at xs number ≡ Some o → observation_at (xs ++ ys) number ≡ Some o
still_at xs ys zero o is = cc
still_at xs ys (suc before) o is = stays_in xs ys before o is

-- What an observation leaves: the pool's pair with the accumulators of this time, which are kept
-- under a number.
pub record Observed (pool : Name) (number : ℕ) (kept : Observation) (new : Ledger) : Type 0 where
  pub now : PairRecord
  pub there : pair_of new.pairs pool ≡ Some now
  pub updated : now.last ≡ new.time % 2 ^ 32
  pub is : kept ≡ observation_of pool new.time now
  pub found : observation_at new.observations number ≡ Some kept

abbrev with_one : Ledger → Name → PairRecord → Ledger
with_one ledger pool pair = with_observation ledger (observation_of pool ledger.time pair)

added_is : (ledger : Ledger) (pool : Name) (pair : PairRecord) (made : Made ℕ) → add_observation ledger pool pair ≡ Ok made
    → ◌≡◌ {A = Made ℕ} (record { ledger = with_one ledger pool pair; answer = length ledger.observations + 1 }) made
unfolding add_observation
added_is ledger pool pair made is =
    let room = not_refused (nat_le OBSERVATION_LIMIT (length ledger.observations)) code.ObservationLimit _ made is in
    same_answer (record { ledger = with_one ledger pool pair; answer = length ledger.observations + 1 }) made room.1

one_more_at : (ledger : Ledger) (pool : Name) (pair : PairRecord) → observation_at (with_one ledger pool pair).observations (length ledger.observations + 1) ≡ Some (observation_of pool ledger.time pair)
one_more_at ledger pool pair =
    ap (observation_at (with_one ledger pool pair).observations) (add-one (length ledger.observations)) ∙ last_in ledger.observations (observation_of pool ledger.time pair)

abbrev next_number : Ledger → ℕ
next_number ledger = length ledger.observations + 1

observed_there : (old : Ledger) (pool : Name) (synced : Made PairRecord) → sync old pool ≡ Ok synced
    → Observed pool (next_number synced.ledger) (observation_of pool synced.ledger.time synced.answer) (with_one synced.ledger pool synced.answer)
observed_there old pool synced is =
    let at = sync_at old pool synced is in
    let now = synced.answer in
    let written : pair_of (set_pair old.pairs pool now) pool ≡ Some now = pair_of-set_here old.pairs pool now (some_there (pair_of old.pairs pool) at.was at.found) in
    let same : synced.ledger.time ≡ old.time = (sync_drifts old pool synced is).time in
    record {
      now = now;
      there = ap (λ (l : Ledger). pair_of l.pairs pool) (sym at.after) ∙ written;
      updated = ap (λ (p : PairRecord). p.last) (sym at.renewed) ∙ ap (λ (t : ℕ). t % 2 ^ 32) (sym same);
      is = refl;
      found = one_more_at synced.ledger pool now;
    }

same_told : (n m : ℕ) (o p : Observation) → (◌≡◌ {A = Answer} (answers.Observe n o) (answers.Observe m p)) → (n ≡ m) × (o ≡ p)
same_told n m o p e = (cc, cc)

-- an accepted observation, in its parts
record Parts (old : Ledger) (pool : Name) (made : Made Answer) : Type 0 where
  synced : Made PairRecord
  syncs : sync old pool ≡ Ok synced
  kept : Observation
  found : observation_at (with_one synced.ledger pool synced.answer).observations (next_number synced.ledger) ≡ Some kept
  left : with_one synced.ledger pool synced.answer ≡ made.ledger
  told : answers.Observe (next_number synced.ledger) kept ≡ made.answer

observe_parts : (old : Ledger) (pool : Name) (made : Made Answer) → observe_answer (observe old pool) ≡ Ok made → Parts old pool made
unfolding observe
observe_parts old pool made is =
    let first = given (observe old pool) _ made is in
    let synced = given (sync old pool) _ first.value first.was in
    let added = added_is synced.value.ledger pool synced.value.answer first.value synced.after in
    let kept = given (ok_or (observation_at first.value.ledger.observations first.value.answer) code.NoObservation) _ made first.after in
    let e = same_answer (record { ledger = first.value.ledger; answer = answers.Observe first.value.answer kept.value }) made kept.after in
    record {
      synced = synced.value;
      syncs = synced.was;
      kept = kept.value;
      found = ap (λ (m : Made ℕ). observation_at m.ledger.observations m.answer) added ∙ was_some (observation_at first.value.ledger.observations first.value.answer) code.NoObservation kept.value kept.was;
      left = ap (λ (m : Made ℕ). m.ledger) added ∙ ap (λ (m : Made Answer). m.ledger) e;
      told = ap (λ (m : Made ℕ). answers.Observe m.answer kept.value) added ∙ ap (λ (m : Made Answer). m.answer) e;
    }

module _ (old : Ledger) (pool : Name) (made : Made Answer) (is : observe_answer (observe old pool) ≡ Ok made) where
  parts : Parts old pool made
  parts = observe_parts old pool made is

  pub observe_onward : Onward old made.ledger
  observe_onward =
      let mid = parts.synced.ledger in
      let drift = sync_drifts old pool parts.synced parts.syncs in
      let one : Onward old (with_one mid pool parts.synced.answer) = record {
        kept = λ number o at. still_at mid.observations (observation_of pool mid.time parts.synced.answer ∷ []) number o (ap (λ (os : List Observation). observation_at os number) drift.observations ∙ at);
        moves = inl (record { time = drift.time; pairs = drift.pairs });
      } in
      subst (Onward old) parts.left one

  pub observe_observed : (number : ℕ) (o : Observation) → made.answer ≡ answers.Observe number o → Observed pool number o made.ledger
  observe_observed number o told =
      let mid = parts.synced.ledger in
      let pair = parts.synced.answer in
      let here : Observation = observation_of pool mid.time pair in
      let new : Ledger = with_one mid pool pair in
      let same = same_told (next_number mid) number parts.kept o (parts.told ∙ told) in
      let read : here ≡ parts.kept = one_value (observation_at new.observations (next_number mid)) here parts.kept (one_more_at mid pool pair) parts.found in
      subst (λ (l : Ledger). Observed pool number o l) parts.left
      (subst (λ (n : ℕ). Observed pool n o new) same.0
      (subst (λ (k : Observation). Observed pool (next_number mid) k new) (read ∙ same.1) (observed_there old pool parts.synced parts.syncs)))

  -- under a number that none had
  pub observe_fresh : (number : ℕ) (o : Observation) → made.answer ≡ answers.Observe number o → observation_at old.observations number ≡ None
  observe_fresh number o told =
      let mid = parts.synced.ledger in
      let same = same_told (next_number mid) number parts.kept o (parts.told ∙ told) in
      subst (λ (n : ℕ). observation_at old.observations n ≡ None) same.0
      (subst (λ (os : List Observation). observation_at os (next_number mid) ≡ None) (sync_drifts old pool parts.synced parts.syncs).observations (none_at mid.observations))

-- ---- the other commands

list_drifts : (old : Ledger) (token : List ℕ) (made : Made (Unit {0})) → list_token old token ≡ Ok made → Drifts old made.ledger
list_drifts old token made is = by (is_listed old.tokens token) (nat_le TOKEN_LIMIT (length old.tokens)) is
  where
    by : (here full : Bool) → (if here then ledger_only old else (if full then Err code.TokenLimit else ledger_only (one_more old token))) ≡ Ok made → Drifts old made.ledger
    by true full e = subst (λ (m : Made (Unit {0})). Drifts old m.ledger) (same_answer (record { ledger = old; answer = tt }) made e) (drifts_same old)
    by false true e = cc
    by false false e = subst (λ (m : Made (Unit {0})). Drifts old m.ledger) (same_answer (record { ledger = one_more old token; answer = tt }) made e) (drifts_pairs old (one_more old token) refl refl refl)

deposit_drifts : (old : Ledger) (user token : List ℕ) (n : ℕ) (made : Made Answer) → deposit old user token n ≡ Ok made → Drifts old made.ledger
unfolding deposit
deposit_drifts old user token n made is =
    let first = given (list_token old token) _ made is in
    let mid : Ledger = first.value.ledger in
    let second = given (issue mid (assets.Token token) (holders.User user) n) _ made first.after in
    let rest = (issue_added mid (assets.Token token) (holders.User user) n second.value second.was).1.rest in
    subst (λ (k : Made Answer). Drifts old k.ledger) (same_answer _ made second.after)
    (drifts_then old mid second.value.ledger (list_drifts old token first.value first.was) (drifts_rest mid second.value.ledger rest))

withdraw_drifts : (old : Ledger) (user token : List ℕ) (n : ℕ) (made : Made Answer) → withdraw old user token n ≡ Ok made → Drifts old made.ledger
unfolding withdraw
withdraw_drifts old user token n made is =
    let first = given (known_asset old (assets.Token token)) _ made is in
    let second = given (retire old (assets.Token token) (holders.User user) n) _ made first.after in
    subst (λ (k : Made Answer). Drifts old k.ledger) (same_answer _ made second.after)
    (drifts_rest old second.value.ledger (retire_taken old (assets.Token token) (holders.User user) n second.value second.was).1.rest)

abbrev at_time : Ledger → ℕ → Ledger
at_time old time = record old { time = time }

time_onward : (old : Ledger) (n : ℕ) (made : Made (Unit {0})) → set_time old n ≡ Ok made → Onward old made.ledger
time_onward old n made is =
    let past = past_refusal (nat_lt n old.time) code.TimeBack (ledger_only (at_time old n)) made is in
    let told : nat_lt n old.time ≡ false = past.0 in
    let later : old.time ≤ n = grind (arith, nat_tests) in
    subst (λ (m : Made (Unit {0})). Onward old m.ledger) (same_answer (record { ledger = at_time old n; answer = tt }) made past.1)
    (record { kept = λ number o at. at; moves = inr (record { time = later; pairs = refl }) })

fee_to_drifts : (old : Ledger) (actor : Name) (to : Holder) (made : Made (Unit {0})) → set_fee_to old actor to ≡ Ok made → Drifts old made.ledger
unfolding set_fee_to
fee_to_drifts old actor to made is =
    let allowed = not_refused (not (same_name actor old.setter)) code.Forbidden _ made is in
    subst (λ (m : Made (Unit {0})). Drifts old m.ledger) (same_answer (record { ledger = with_fee_to old to; answer = tt }) made allowed.1) (drifts_pairs old (with_fee_to old to) refl refl refl)

setter_drifts : (old : Ledger) (actor to : Name) (made : Made (Unit {0})) → set_setter old actor to ≡ Ok made → Drifts old made.ledger
unfolding set_setter
setter_drifts old actor to made is =
    let allowed = not_refused (not (same_name actor old.setter)) code.Forbidden _ made is in
    subst (λ (m : Made (Unit {0})). Drifts old m.ledger) (same_answer (record { ledger = with_setter old to; answer = tt }) made allowed.1) (drifts_pairs old (with_setter old to) refl refl refl)

-- an operation that has nothing to tell
told_plain : {A : Type 0} (answer : Answer) (old : Ledger) (outcome : Outcome A) (made : Made Answer) → ((done : Made A) → outcome ≡ Ok done → Onward old done.ledger) → outcome_with answer outcome ≡ Ok made
    → Onward old made.ledger
told_plain answer old outcome made each is =
    let first = given outcome _ made is in
    subst (λ (k : Made Answer). Onward old k.ledger) (same_answer _ made first.after) (each first.value first.was)

-- a query changes nothing
asked_only : {A : Type 0} (old : Ledger) (form : A → Answer) (found : Result A Refusal) (made : Made Answer) → query old form found ≡ Ok made → Onward old made.ledger
asked_only old form found made is =
    let first = given found _ made is in
    subst (λ (k : Made Answer). Onward old k.ledger) (same_answer _ made first.after) (onward_same old)

split_onward : (old : Ledger) (s t : Name) (d : ℕ) (made : Made Answer) (may : Result (Unit {0}) Refusal)
    → MatchResult may (λ _. Routes old s t d (Ok made)) (λ why. Ok made ≡ Err why) → Onward old made.ledger
split_onward old s t d made (Ok ok) comes = subst (Onward old) (sym comes.kept) (onward_drifts old (with_quote old comes.quote) (drifts_pairs old (with_quote old comes.quote) refl refl refl))
split_onward old s t d made (Err why) comes = cc

basket_onward : (old : Ledger) (actor : Name) (parts : List Part) (t : Name) (min : ℕ) (made : Made Answer) (may : Result (Unit {0}) Refusal)
    → MatchResult may (λ _. Sells old actor parts t min (Ok made)) (λ why. Ok made ≡ Err why) → Onward old made.ledger
basket_onward old actor parts t min made (Ok ok) comes =
    onward_drifts old made.ledger (legs_drifts comes.quote.route.legs old actor comes.quote.problem.pools (record { ledger = made.ledger; answer = tt }) comes.performed)
basket_onward old actor parts t min made (Err why) comes = cc

cycle_onward : (old : Ledger) (actor t : Name) (made : Made Answer) (may : Result (Unit {0}) Refusal)
    → MatchResult may (λ _. Cycles meaning old actor t (Ok made)) (λ why. Ok made ≡ Err why) → Onward old made.ledger
cycle_onward old actor t made (Ok ok) comes =
    let run = comes.run in
    onward_drifts old made.ledger (step_drifts (nested_loans comes.quote.problem.pools run.first run.later) old actor (record { ledger = made.ledger; answer = answers.Flash run.receipt }) run.ran)
cycle_onward old actor t made (Err why) comes = cc

-- every accepted command
pub command_onward : (old : Ledger) (asked : CommandView) (made : Made Answer) → MayComeTo old asked (Ok made) → Onward old made.ledger
unfolding MayComeTo
command_onward old (command.deposit user token n) made is = onward_drifts old made.ledger (deposit_drifts old user token n made is)
command_onward old (command.withdraw user token n) made is = onward_drifts old made.ledger (withdraw_drifts old user token n made is)
command_onward old (command.time n) made is = told_plain answers.Time old (set_time old n) made (time_onward old n) is
command_onward old (command.fee_to actor to) made is = told_plain answers.FeeTo old (set_fee_to old actor to) made (λ done e. onward_drifts old done.ledger (fee_to_drifts old actor to done e)) is
command_onward old (command.setter actor to) made is = told_plain answers.Setter old (set_setter old actor to) made (λ done e. onward_drifts old done.ledger (setter_drifts old actor to done e)) is
command_onward old (command.quote_out path n) made is = asked_only old answers.QuoteOut (amounts_out old path n) made is
command_onward old (command.quote_in path n) made is = asked_only old answers.QuoteIn (amounts_in old path n) made is
command_onward old (command.split s t d) made is = split_onward old s t d made (may_split old s t d) is
command_onward old (command.certificate number) made is = asked_only old answers.Certificate (ok_or (quote_of old.quotes number) code.NoQuote) made is
command_onward old (command.pool name) made is = asked_only old (pool_answer old name) (ok_or (pair_of old.pairs name) code.NoPair) made is
command_onward old (command.balance asset holder) made is = asked_only old _ (known_asset old asset) made is
command_onward old (command.total asset) made is = asked_only old _ (known_asset old asset) made is
command_onward old (command.observe actor name) made is = observe_onward old name made is
command_onward old (command.average first second) made is = asked_only old answers.Average (average old first second) made is
command_onward old (command.consult first second token n) made is = asked_only old answers.Consult (consult old first second token n) made is
command_onward old (command.window name seconds) made is = asked_only old answers.Window (window old name seconds) made is
command_onward old (command.basket actor parts t min deadline) made is = basket_onward old actor parts t min made (may_sell old actor parts t deadline) is
command_onward old (command.cycle actor t deadline) made is = cycle_onward old actor t made (may_cycle old t deadline) is
command_onward old (command.act actor step) made is = onward_drifts old made.ledger (step_drifts step old actor made is)

outcome_onward : (old : Ledger) (read : Result CommandView Refusal) (outcome : Outcome Answer) → MatchResult read (λ asked. MayComeTo old asked outcome) (λ why. outcome ≡ Err why)
    → Onward old (ledger_after old outcome)
outcome_onward old read (Err why) comes = onward_same old
outcome_onward old (Ok asked) (Ok made) comes = command_onward old asked made comes
outcome_onward old (Err why) (Ok made) comes = cc

line_onward : (old : Ledger) (line : Line) (outcome : Outcome Answer) → ComesTo old line outcome → Onward old (ledger_after old outcome)
unfolding ComesTo
line_onward old Blank outcome comes = absurd comes
line_onward old Long (Err why) comes = onward_same old
line_onward old Long (Ok made) comes = cc
line_onward old (Whole bytes) outcome comes = outcome_onward old (command_of_line bytes) outcome comes

-- every line
pub step_onward : (old : Ledger) (number : ℕ) (line : Line) (replies : List Reply) (new : Ledger) → Step old number line replies new → Onward old new
unfolding Step
step_onward old number Blank replies new step = subst (Onward old) (sym step.1) (onward_same old)
step_onward old number Long replies new step = subst (Onward old) (sym step.3) (line_onward old Long step.0 step.1)
step_onward old number (Whole bytes) replies new step = subst (Onward old) (sym step.3) (line_onward old (Whole bytes) step.0 step.1)
