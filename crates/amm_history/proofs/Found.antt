-- What an accepted average or window read: two kept observations of one pool, less than 2^32
-- seconds apart.
use Rattle.std.proofs.Common.{◌≡◌, ◌<◌, ◌+◌, ◌&&◌, ◌==◌, ◌^◌, ℕ, suc, nat_lt, not, Bool, true, false, List, [], ◌∷◌, Option, Some, None, Ok, refl, sym, ap, ◌∙◌, subst, arith}
use Rattle.std.specs.Prelude.{if◌then◌else◌, ok_or, slice_get}
use Rattle.std.specs.Option.{option_or}
use Rattle.std.proofs.lemmas.Bool.{not-false, and_parts}
use Rattle.std.proofs.lemmas.Bool.Decides.{nat_tests}
use Rattle.amm_names.specs.Names.{Name}
use Rattle.amm_model.specs.declared.observation.Observation.{Observation}
use Rattle.amm_model.specs.declared.observation.Averages.{Averages}
use Rattle.amm_model.specs.declared.observation.WindowAnswer.{WindowAnswer}
use Rattle.amm_model.specs.declared.fault.Refusal.TheVariants as code
use Rattle.amm_model.specs.declared.reply.Answer.{Answer}
use Rattle.amm_model.specs.declared.reply.Answer.TheVariants as answers
use Rattle.amm_model.specs.Ledger.{Ledger, pair_of, observation_at}
use Rattle.amm_model.specs.Outcome.{Made}
use Rattle.amm_model.specs.Pools.{same_name}
use Rattle.amm_model.specs.Observations.{is_window, average0, average1}
use Rattle.amm_model.specs.Oracle.{averages_between, average, last_from, last_before, window}
use Rattle.amm_model.specs.Meaning.{query}
use Rattle.amm_model.proofs.Guards.{given, not_refused, same_answer, was_some}
use Rattle.amm_model.proofs.Names.{one_value, same_name_is}

-- the averages are those of two observations that a window may have
pub record Between (x y : Observation) (told : Averages) : Type 0 where
  pub same : x.pool ≡ y.pool
  pub later : x.time < y.time
  pub within : y.time < x.time + 2 ^ 32
  pub price0 : told.price0 ≡ average0 x y
  pub price1 : told.price1 ≡ average1 x y

averages_read : (x y : Observation) (told : Averages) → averages_between x y ≡ Ok told → Between x y told
unfolding averages_between
averages_read x y told is =
    let past = not_refused (not (is_window x y)) code.BadWindow _ told is in
    let e = same_answer (record { price0 = average0 x y; price1 = average1 x y }) told past.1 in
    let both = and_parts (same_name x.pool y.pool) (nat_lt x.time y.time && nat_lt y.time (x.time + 2 ^ 32)) (not-false (is_window x y) past.0) in
    let times = and_parts (nat_lt x.time y.time) (nat_lt y.time (x.time + 2 ^ 32)) both.1 in
    let less : nat_lt x.time y.time ≡ true = times.0 in
    let near : nat_lt y.time (x.time + 2 ^ 32) ≡ true = times.1 in
    record {
      same = same_name_is x.pool y.pool both.0;
      later = grind (arith, nat_tests);
      within = grind (arith, nat_tests);
      price0 = ap (λ (a : Averages). a.price0) (sym e);
      price1 = ap (λ (a : Averages). a.price1) (sym e);
    }

-- two observations that are kept under these numbers, and their averages
pub record HasRead (ledger : Ledger) (a b : ℕ) (told : Averages) : Type 0 where
  pub x : Observation
  pub y : Observation
  pub first : observation_at ledger.observations a ≡ Some x
  pub second : observation_at ledger.observations b ≡ Some y
  pub between : Between x y told

average_found : (ledger : Ledger) (a b : ℕ) (told : Averages) → average ledger a b ≡ Ok told → HasRead ledger a b told
unfolding average
average_found ledger a b told is =
    let first = given (ok_or (observation_at ledger.observations a) code.NoObservation) _ told is in
    let second = given (ok_or (observation_at ledger.observations b) code.NoObservation) _ told first.after in
    record {
      x = first.value;
      y = second.value;
      first = was_some (observation_at ledger.observations a) code.NoObservation first.value first.was;
      second = was_some (observation_at ledger.observations b) code.NoObservation second.value second.was;
      between = averages_read first.value second.value told second.after;
    }

-- ---- what a window found

record FoundAt (kept : List Observation) (number : ℕ) (found : ℕ × Observation) : Type 0 where
  place : ℕ
  numbered : found.0 ≡ number + place
  there : slice_get kept place ≡ Some found.1

found_in : (kept : List Observation) (number : ℕ) (passes : Observation → Bool) (found : ℕ × Observation) → last_from number passes kept ≡ Some found → FoundAt kept number found
unfolding last_from
found_in [] number passes found is = cc
found_in (o ∷ kept) number passes found is = by (λ q was. found_in kept (suc number) passes q was) (last_from (suc number) passes kept) refl is
  where
    here : (b : Bool) → (if b then Some (number, o) else None) ≡ Some found → FoundAt (o ∷ kept) number found
    here true gives = subst (FoundAt (o ∷ kept) number) (one_value (Some (number, o)) (number, o) found refl gives) (record { place = 0; numbered = omega arith; there = refl })
    here false gives = cc

    by : ((q : ℕ × Observation) → last_from (suc number) passes kept ≡ Some q → FoundAt kept (suc number) q) → (r : Option (ℕ × Observation)) → last_from (suc number) passes kept ≡ r → option_or r (if passes o then Some (number, o) else None) ≡ Some found → FoundAt (o ∷ kept) number found
    by deeper (Some q) was gives =
        let f = deeper q was in
        subst (FoundAt (o ∷ kept) number) (one_value (Some q) q found refl gives) (record { place = suc f.place; numbered = omega (arith, f.numbered); there = f.there })
    by deeper None was gives = here (passes o) gives

found_kept : (ledger : Ledger) (passes : Observation → Bool) (found : ℕ × Observation) → last_from 1 passes ledger.observations ≡ Some found → observation_at ledger.observations found.0 ≡ Some found.1
found_kept ledger passes found is =
    let f = found_in ledger.observations 1 passes found is in
    let e : found.0 ≡ suc f.place = omega (arith, f.numbered) in
    ap (observation_at ledger.observations) e ∙ f.there

window_found : (ledger : Ledger) (pool : Name) (seconds : ℕ) (told : WindowAnswer) → window ledger pool seconds ≡ Ok told → HasRead ledger told.first told.second told.averages
unfolding window
window_found ledger pool seconds told is =
    let pair = given (ok_or (pair_of ledger.pairs pool) code.NoPair) _ told is in
    let some = not_refused (seconds == 0) code.ZeroAmount _ told pair.after in
    let second = given (ok_or (last_before ledger pool 0 ledger.time) code.NoObservation) _ told some.1 in
    let first = given (ok_or (last_before ledger pool seconds second.value.1.time) code.NoObservation) _ told second.after in
    let averages = given (averages_between first.value.1 second.value.1) _ told first.after in
    let e = same_answer (record { first = first.value.0; second = second.value.0; averages = averages.value }) told averages.after in
    subst (λ (w : WindowAnswer). HasRead ledger w.first w.second w.averages) e (record {
      x = first.value.1;
      y = second.value.1;
      first = found_kept ledger _ first.value (was_some (last_before ledger pool seconds second.value.1.time) code.NoObservation first.value first.was);
      second = found_kept ledger _ second.value (was_some (last_before ledger pool 0 ledger.time) code.NoObservation second.value second.was);
      between = averages_read first.value.1 second.value.1 averages.value averages.was;
    })

-- ---- the commands

pub average_read : (ledger : Ledger) (a b : ℕ) (made : Made Answer) (told : Averages) → query ledger answers.Average (average ledger a b) ≡ Ok made → made.answer ≡ answers.Average told → HasRead ledger a b told
average_read ledger a b made told is answer =
    let found = given (average ledger a b) _ made is in
    let e : answers.Average found.value ≡ answers.Average told = ap (λ (m : Made Answer). m.answer) (same_answer (record { ledger = ledger; answer = answers.Average found.value }) made found.after) ∙ answer in
    subst (HasRead ledger a b) (let same : found.value ≡ told = cc in same) (average_found ledger a b found.value found.was)

pub window_read : (ledger : Ledger) (pool : Name) (seconds : ℕ) (made : Made Answer) (told : WindowAnswer) → query ledger answers.Window (window ledger pool seconds) ≡ Ok made
    → made.answer ≡ answers.Window told → HasRead ledger told.first told.second told.averages
window_read ledger pool seconds made told is answer =
    let found = given (window ledger pool seconds) _ made is in
    let e : answers.Window found.value ≡ answers.Window told = ap (λ (m : Made Answer). m.answer) (same_answer (record { ledger = ledger; answer = answers.Window found.value }) made found.after) ∙ answer in
    subst (λ (w : WindowAnswer). HasRead ledger w.first w.second w.averages) (let same : found.value ≡ told = cc in same) (window_found ledger pool seconds found.value found.was)
