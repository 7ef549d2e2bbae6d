-- What an accepted observation leaves.
use Rattle.std.proofs.Common.{◌≡◌, ℕ, suc, ◌+◌, ◌<◌, ◌≤◌, ◌++◌, ◌∷◌, [], nat_le, false, List, length, Option, Some, IsSome, Ok, Err, refl, sym, ap, subst, ◌∙◌, arith, length-append}
use Rattle.std.specs.Prelude.{slice_get, All, AllPairs}
use Rattle.std.specs.Option.{unwrap_or}
use Rattle.std.proofs.lemmas.Bool.{leb-false}
use Rattle.std.proofs.lemmas.List.Elements.{All-push}
use Rattle.std.proofs.lemmas.List.Quantifiers.{all_pairs_push}
use Rattle.amm_names.specs.declared.holder.Asset.{Asset}
use Rattle.amm_model.specs.declared.pair.PairRecord.{PairRecord}
use Rattle.amm_model.specs.declared.observation.Observation.{Observation}
use Rattle.amm_model.specs.declared.fault.Fault.{Fault}
use Rattle.amm_model.specs.declared.fault.Fault.TheVariants as faults
use Rattle.amm_model.specs.declared.fault.Refusal.TheVariants.{ObservationLimit}
use Rattle.amm_model.specs.declared.limits.TheConstants.{OBSERVATION_LIMIT}
use Rattle.amm_model.specs.Ledger.{Ledger, Pairs, balance, total, pair_of, zero_pair, with_pair, observation_at, with_observation}
use Rattle.amm_model.specs.Laws.{ZeroKept, TokenTotalsKept}
use Rattle.amm_model.specs.Observations.{AreInTime, observation_of}
use Rattle.amm_model.specs.Operations.{free_pair, updated_record, sync}
use Rattle.amm_model.specs.Oracle.{add_observation, observe}
use Rattle.amm_model.specs.Outcome.{◌>>=◌, Made, Outcome}
use Rattle.amm_model.specs.Sound.{IsSound, IsAtRest}
use Rattle.amm_model.proofs.Guards.{given, not_refused, same_answer}
use Rattle.amm_model.proofs.Keeping.{rest_kept}
use Rattle.amm_model.proofs.Names.{some_there, pair_of-set_here}
use Rattle.amm_model.proofs.PlainSound.{Plain, plain_known, plain_sound, rest_from}
use Rattle.amm_state.specs.Tx.{TxView, Meets}
use Rattle.amm_pair.proofs.Operations.{sync_synced, sync_sound, sync_kept}

-- the record of a synced pair is the answer
pub sync_answer : (ledger : Ledger) (pool : List ℕ) (made : Made PairRecord) → sync ledger pool ≡ Ok made → pair_of made.ledger.pairs pool ≡ Some made.answer
unfolding sync
sync_answer ledger pool made is =
    let found = (sync_synced ledger pool made is).found.there in
    let first = given (free_pair ledger pool) _ made is in
    let second = given (updated_record ledger pool first.value) _ made first.after in
    let e = same_answer (record { ledger = with_pair ledger pool second.value; answer = second.value }) made second.after in
    subst (λ (m : Made PairRecord). pair_of m.ledger.pairs pool ≡ Some m.answer) e (pair_of-set_here ledger.pairs pool second.value (some_there (pair_of ledger.pairs pool) _ found))

-- and the pair is there
pub synced_there : (ledger : Ledger) (pool : List ℕ) (made : Made PairRecord) → sync ledger pool ≡ Ok made → IsSome (pair_of made.ledger.pairs pool)
synced_there ledger pool made is = some_there (pair_of made.ledger.pairs pool) made.answer (sync_answer ledger pool made is)

-- and what is observed of it
pub synced_record : (ledger : Ledger) (pool : List ℕ) (made : Made PairRecord) → sync ledger pool ≡ Ok made → unwrap_or (pair_of made.ledger.pairs pool) zero_pair ≡ made.answer
synced_record ledger pool made is = ap (λ (o : Option PairRecord). unwrap_or o zero_pair) (sync_answer ledger pool made is)

-- one more observation, made now
pub in_time_more : (now : ℕ) (kept : List Observation) (o : Observation) → length kept < OBSERVATION_LIMIT → o.time ≡ now → AreInTime now kept → AreInTime now (kept ++ o ∷ [])
in_time_more now kept o room time in_time = record {
  few = omega (arith, length-append kept (o ∷ []));
  in_order = all_pairs_push (λ (a b : Observation). a.time ≤ b.time) kept o in_time.in_order (λ k d short. omega (arith, in_time.past k d short, time));
  past = All-push (λ (a : Observation). a.time ≤ now) kept o in_time.past (omega (arith, time));
}

with_observation_plain : (ledger : Ledger) (o : Observation) → Plain ledger (with_observation ledger o)
with_observation_plain ledger o = record { pairs = refl; listed = λ token is. is; held = λ asset pool. omega arith; zero = λ asset. omega arith; shares = λ pool. refl }

with_observation_sound : (ledger : Ledger) (o : Observation) → length ledger.observations < OBSERVATION_LIMIT → o.time ≡ ledger.time → IsSound ledger → IsSound (with_observation ledger o)
with_observation_sound ledger o room time sound =
    let plain = with_observation_plain ledger o in
    plain_sound ledger (with_observation ledger o) sound plain record {
      totals = sound.totals;
      known = λ asset some. plain_known ledger (with_observation ledger o) plain asset (sound.known asset some);
      tokens = sound.tokens;
      time = sound.time;
      quotes = sound.quotes;
      answers = sound.answers;
      observations = in_time_more ledger.time ledger.observations o room time sound.observations;
    }

-- the pool was synced, and its observation is the last
pub record Observed (old : Ledger) (pool : List ℕ) (made : Made ℕ) : Type 0 where
  pub synced : Made PairRecord
  pub was : sync old pool ≡ Ok synced
  pub room : length synced.ledger.observations < OBSERVATION_LIMIT
  pub after : made.ledger ≡ with_observation synced.ledger (observation_of pool synced.ledger.time synced.answer)
  pub number : made.answer ≡ length synced.ledger.observations + 1

pub observe_observed : (ledger : Ledger) (pool : List ℕ) (made : Made ℕ) → observe ledger pool ≡ Ok made → Observed ledger pool made
unfolding observe add_observation
observe_observed ledger pool made is =
    let first = given (sync ledger pool) _ made is in
    let mid : Ledger = first.value.ledger in
    let past = not_refused (nat_le OBSERVATION_LIMIT (length mid.observations)) ObservationLimit _ made first.after in
    let e = same_answer (record { ledger = with_observation mid (observation_of pool mid.time first.value.answer); answer = length mid.observations + 1 }) made past.1 in
    record {
      synced = first.value;
      was = first.was;
      room = leb-false OBSERVATION_LIMIT (length mid.observations) past.0;
      after = ap (λ (m : Made ℕ). m.ledger) (sym e);
      number = ap (λ (m : Made ℕ). m.answer) (sym e);
    }

last_there : {X : Type 0} (xs : List X) (x : X) → slice_get (xs ++ x ∷ []) (length xs) ≡ Some x
last_there [] x = refl
last_there (y ∷ xs) x = last_there xs x

module _ (ledger : Ledger) (pool : List ℕ) (made : Made ℕ) (is : observe ledger pool ≡ Ok made) where
  pub done : Observed ledger pool made
  done = observe_observed ledger pool made is

  abbrev mid : Ledger
  mid = done.synced.ledger

  -- a sound ledger stays sound
  pub observe_sound : IsSound ledger → IsSound made.ledger
  observe_sound sound = subst IsSound (sym done.after) (with_observation_sound mid (observation_of pool mid.time done.synced.answer) done.room refl (sync_sound ledger pool done.synced sound done.was))

  -- and one at rest, at rest
  pub observe_rest : IsAtRest ledger → IsAtRest made.ledger
  observe_rest rest =
      let synced : IsAtRest mid = rest_kept ledger mid rest (sync_kept ledger pool done.synced done.was).later.no_other (sync_sound ledger pool done.synced rest.sound done.was) in
      rest_from mid made.ledger synced (ap (λ (l : Ledger). l.pairs) done.after) (observe_sound rest.sound)

  -- nothing that is held changes hands
  pub observe_zero : ZeroKept ledger made.ledger
  observe_zero asset = subst (λ (l : Ledger). ZeroKept ledger l) (sym done.after) (sync_kept ledger pool done.synced done.was).zero asset

  pub observe_totals : TokenTotalsKept ledger made.ledger
  observe_totals token = subst (λ (l : Ledger). TokenTotalsKept ledger l) (sym done.after) (sync_kept ledger pool done.synced done.was).later.totals token

  -- the answer is the number of what was kept: the pool's accumulators, at the ledger's time
  pub observe_kept : observation_at made.ledger.observations made.answer ≡ Some (observation_of pool mid.time done.synced.answer)
  observe_kept =
      let number : made.answer ≡ suc (length mid.observations) = omega (arith, done.number) in
      subst (λ (n : ℕ). observation_at made.ledger.observations n ≡ Some (observation_of pool mid.time done.synced.answer)) (sym number)
      (ap (λ (l : Ledger). slice_get l.observations (length mid.observations)) done.after ∙ last_there mid.observations (observation_of pool mid.time done.synced.answer))

-- a call that failed goes no further
pub meets_failed : {A B : Type 0} (old new : TxView) (fault : Fault) (outcome : Outcome A) (next : Made A → Outcome B) → Meets {A = A} old new (Err fault) outcome → Meets {A = B} old new (Err fault) (outcome >>= next)
meets_failed old new (faults.Refused why) outcome next meets = record { gives = ap (λ o. o >>= next) meets.gives; opening = meets.opening; mark = meets.mark }
meets_failed old new faults.Memory outcome next meets = meets
