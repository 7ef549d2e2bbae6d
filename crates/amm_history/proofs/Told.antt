-- Accepted averages tell the time-weighted averages of the prices.
use Rattle.std.proofs.Common.{◌≡◌, ◌≢◌, ◌≤◌, ◌<◌, ◌+◌, ◌-◌, ◌*◌, ◌/◌, ◌%◌, ◌^◌, ℕ, suc, List, take, drop, get_or, Some, None, inl, inr, sym, ap, ◌∙◌, subst, arith, add-one}
use Rattle.std.proofs.lemmas.Option.{get_or_from_slice_get}
use Rattle.std.proofs.lemmas.Bool.{cases_lt}
use Rattle.amm_names.specs.Names.{Name}
use Rattle.amm_model.specs.declared.fault.Refusal.{Refusal}
use Rattle.amm_model.specs.declared.line.Line.{Line}
use Rattle.amm_model.specs.declared.line.Line.TheVariants.{Whole}
use Rattle.amm_model.specs.declared.observation.Averages.{Averages}
use Rattle.amm_model.specs.declared.observation.Observation.{Observation}
use Rattle.amm_model.specs.declared.observation.WindowAnswer.{WindowAnswer}
use Rattle.amm_model.specs.declared.pair.PairRecord.{PairRecord}
use Rattle.amm_model.specs.declared.reply.Answer.TheVariants as answers
use Rattle.amm_model.specs.declared.reply.Reply.{Reply}
use Rattle.amm_model.specs.CommandView as command
use Rattle.amm_model.specs.CommandView.{CommandView}
use Rattle.amm_model.specs.Ledger.{Ledger, pair_of, observation_at}
use Rattle.amm_model.specs.Meaning.{MayComeTo}
use Rattle.amm_model.specs.Observations.{growth}
use Rattle.amm_model.specs.Runs.{FairRun, FairStep}
use Rattle.amm_model.specs.Sound.{IsAtRest}
use Rattle.amm_model.specs.WeightedPrices.{price0, price1, weighted_sum, end_time}
use Rattle.amm_model.proofs.Names.{one_value}
use Rattle.amm_history.specs.History.{RunThrough, IsDone, TellsBetween, stretch, AreWeighted, TellsAverages}
use Rattle.amm_history.proofs.Readings.{reads_itself}
use Rattle.amm_history.proofs.Lines.{Observed, observe_observed, observe_fresh}
use Rattle.amm_history.proofs.Found.{Between, HasRead, average_read, window_read}
use Rattle.amm_history.proofs.Chains.{Chain, end_of, end_time_is, chain_take, chain_drop, end_more, remembers_between, time_between, Since, since_chain, price0_small, price1_small, sum_small}
use Rattle.amm_history.proofs.Places.{through, plain_run, chain_of, place_at, Did, done_here}

-- ---- what one accepted line did

observed : (old new : Ledger) (user pool : Name) (number : ℕ) (o : Observation) → Did old (command.observe user pool) (answers.Observe number o) new → Observed pool number o new
unfolding MayComeTo
observed old new user pool number o d = subst (Observed pool number o) d.left (observe_observed old pool d.made d.comes number o d.told)

fresh : (old new : Ledger) (user pool : Name) (number : ℕ) (o : Observation) → Did old (command.observe user pool) (answers.Observe number o) new → observation_at old.observations number ≡ None
unfolding MayComeTo
fresh old new user pool number o d = observe_fresh old pool d.made d.comes number o d.told

read_average : (old new : Ledger) (a b : ℕ) (told : Averages) → Did old (command.average a b) (answers.Average told) new → HasRead old a b told
unfolding MayComeTo
read_average old new a b told d = average_read old a b d.made told d.comes d.told

read_window : (old new : Ledger) (pool : Name) (seconds : ℕ) (told : WindowAnswer) → Did old (command.window pool seconds) (answers.Window told) new → HasRead old told.first told.second told.averages
unfolding MayComeTo
read_window old new pool seconds told d = window_read old pool seconds d.made told d.comes d.told

-- ---- arithmetic

grown_by : (before now sum : ℕ) → before < 2 ^ 128 → now < 2 ^ 128 → sum < 2 ^ 128 → now % 2 ^ 128 ≡ (before + sum) % 2 ^ 128 → growth before now ≡ sum
grown_by before now sum small0 small1 small same = omega arith

fits : (sum seconds : ℕ) → sum ≤ seconds * 2 ^ 96 → seconds < 2 ^ 32 → sum < 2 ^ 128
fits sum seconds within few = omega arith

-- ---- from one observation to the next

module _ (pool pool2 : Name) (a b : ℕ) (x y : Observation) (told : Averages) (start : Ledger) (later : List Ledger) (rest : IsAtRest start) (chain : Chain start later) (end_rest : IsAtRest (end_of start later))
    (first : Observed pool a x start) (second : Observed pool2 b y (end_of start later)) (between : Between x y told) where
  abbrev end : Ledger
  end = end_of start later

  x_time : x.time ≡ start.time
  x_time = ap (λ (o : Observation). o.time) first.is

  y_time : y.time ≡ end_time start later
  y_time = ap (λ (o : Observation). o.time) second.is ∙ sym (end_time_is start later)

  same_pool : pool ≡ pool2
  same_pool = ap (λ (o : Observation). o.pool) (sym first.is) ∙ between.same ∙ ap (λ (o : Observation). o.pool) second.is

  begins : Since pool start.time x.acc0 x.acc1 start
  begins = record {
    pair = first.now;
    there = first.there;
    from = start.time;
    after = omega arith;
    past = omega arith;
    last = first.updated;
    first = reads_itself first.now.acc0 first.now.r1 first.now.r0 start.time first.now.last first.updated ∙ ap (λ (o : Observation). o.acc0 % 2 ^ 128) (sym first.is);
    second = reads_itself first.now.acc1 first.now.r0 first.now.r1 start.time first.now.last first.updated ∙ ap (λ (o : Observation). o.acc1 % 2 ^ 128) (sym first.is);
  }

  near : end_time start later < start.time + 2 ^ 32
  near = omega (arith, between.within, x_time, y_time)

  abbrev sum0 : ℕ
  sum0 = weighted_sum (price0 pool) start later

  abbrev sum1 : ℕ
  sum1 = weighted_sum (price1 pool) start later

  ends : Since pool start.time (x.acc0 + sum0) (x.acc1 + sum1) end
  ends = since_chain pool start.time x.acc0 x.acc1 start later chain near begins

  -- the pair that was observed then
  same_pair : ends.pair ≡ second.now
  same_pair = one_value (pair_of end.pairs pool) ends.pair second.now ends.there (ap (pair_of end.pairs) same_pool ∙ second.there)

  updated : ends.pair.last ≡ end.time % 2 ^ 32
  updated = ap (λ (p : PairRecord). p.last) same_pair ∙ second.updated

  y_acc0 : ends.pair.acc0 ≡ y.acc0
  y_acc0 = ap (λ (p : PairRecord). p.acc0) same_pair ∙ ap (λ (o : Observation). o.acc0) (sym second.is)

  y_acc1 : ends.pair.acc1 ≡ y.acc1
  y_acc1 = ap (λ (p : PairRecord). p.acc1) same_pair ∙ ap (λ (o : Observation). o.acc1) (sym second.is)

  reads0 : y.acc0 % 2 ^ 128 ≡ (x.acc0 + sum0) % 2 ^ 128
  reads0 = ap (λ (n : ℕ). n % 2 ^ 128) (sym y_acc0) ∙ sym (reads_itself ends.pair.acc0 ends.pair.r1 ends.pair.r0 end.time ends.pair.last updated) ∙ ends.first

  reads1 : y.acc1 % 2 ^ 128 ≡ (x.acc1 + sum1) % 2 ^ 128
  reads1 = ap (λ (n : ℕ). n % 2 ^ 128) (sym y_acc1) ∙ sym (reads_itself ends.pair.acc1 ends.pair.r0 ends.pair.r1 end.time ends.pair.last updated) ∙ ends.second

  few : end_time start later - start.time < 2 ^ 32
  few = omega (arith, near)

  growth0 : growth x.acc0 y.acc0 ≡ sum0
  growth0 =
      let small = (rest.sound.pairs pool first.now first.there).small.acc0 in
      let x_small : x.acc0 < 2 ^ 128 = subst (λ (o : Observation). o.acc0 < 2 ^ 128) (sym first.is) small in
      let y_small : y.acc0 < 2 ^ 128 = subst (λ (n : ℕ). n < 2 ^ 128) y_acc0 (end_rest.sound.pairs pool ends.pair ends.there).small.acc0 in
      grown_by x.acc0 y.acc0 sum0 x_small y_small (fits sum0 (end_time start later - start.time) (sum_small (price0 pool) (price0_small pool) start later rest chain) few) reads0

  growth1 : growth x.acc1 y.acc1 ≡ sum1
  growth1 =
      let small = (rest.sound.pairs pool first.now first.there).small.acc1 in
      let x_small : x.acc1 < 2 ^ 128 = subst (λ (o : Observation). o.acc1 < 2 ^ 128) (sym first.is) small in
      let y_small : y.acc1 < 2 ^ 128 = subst (λ (n : ℕ). n < 2 ^ 128) y_acc1 (end_rest.sound.pairs pool ends.pair ends.there).small.acc1 in
      grown_by x.acc1 y.acc1 sum1 x_small y_small (fits sum1 (end_time start later - start.time) (sum_small (price1 pool) (price1_small pool) start later rest chain) few) reads1

  over : (grown sum : ℕ) → grown ≡ sum → grown / (y.time - x.time) ≡ sum / (end_time start later - start.time)
  over grown sum e = ap (λ (n : ℕ). n / (y.time - x.time)) e ∙ ap (λ (n : ℕ). sum / (n - x.time)) y_time ∙ ap (λ (n : ℕ). sum / (end_time start later - n)) x_time

  pub weighted : AreWeighted pool start later told
  weighted = (between.price0 ∙ over (growth x.acc0 y.acc0) sum0 growth0, between.price1 ∙ over (growth x.acc1 y.acc1) sum1 growth1)

-- ---- in a run

observe_accepted : (number : ℕ) (o : Observation) (why : Refusal) → answers.Refused why ≢ answers.Observe number o
observe_accepted number o why e = cc

-- an observation that the line at place i made
record MadeAt (old : Ledger) (later : List Ledger) (i : ℕ) (pool : Name) (number : ℕ) (o : Observation) : Type 0 where
  fresh : observation_at (end_of old (take i later)).observations number ≡ None
  seen : Observed pool number o (end_of old (take (suc i) later))
  rest : IsAtRest (end_of old (take (suc i) later))
  at : get_or later i old ≡ end_of old (take (suc i) later)

-- the averages that the line at place k told
record ReadAt (old : Ledger) (later : List Ledger) (k a b : ℕ) (told : Averages) : Type 0 where
  read : HasRead (end_of old (take k later)) a b told

module _ (old : Ledger) (number : ℕ) (lines : List Line) (replies : List Reply) (later : List Ledger) (run : RunThrough FairStep old number lines replies later) where
  made_at : (i : ℕ) (user pool : Name) (n : ℕ) (o : Observation) → IsDone number lines replies i (command.observe user pool) (answers.Observe n o) → MadeAt old later i pool n o
  made_at i user pool n o done =
      let p = place_at old number lines replies later i (Whole done.bytes) run done.line in
      let d = done_here old number lines replies later i (command.observe user pool) (answers.Observe n o) done p (observe_accepted n o) in
      record {
        fresh = subst (λ (l : Ledger). observation_at l.observations n ≡ None) p.until (fresh p.before p.after user pool n o d);
        seen = subst (Observed pool n o) p.reached (observed p.before p.after user pool n o d);
        rest = subst IsAtRest p.reached p.step.rest;
        at = get_or_from_slice_get later i p.after old p.at ∙ p.reached;
      }

  read_at : (k a b : ℕ) (told : Averages) → TellsBetween number lines replies k a b told → ReadAt old later k a b told
  read_at k a b told (inl done) =
      let p = place_at old number lines replies later k (Whole done.bytes) run done.line in
      let d = done_here old number lines replies later k (command.average a b) (answers.Average told) done p (λ why e. cc) in
      record { read = subst (λ (l : Ledger). HasRead l a b told) p.until (read_average p.before p.after a b told d) }
  read_at k a b told (inr found) =
      let done = found.2 in
      let answer : WindowAnswer = record { first = a; second = b; averages = told } in
      let p = place_at old number lines replies later k (Whole done.bytes) run done.line in
      let d = done_here old number lines replies later k (command.window found.0 found.1) (answers.Window answer) done p (λ why e. cc) in
      record { read = subst (λ (l : Ledger). HasRead l a b told) p.until (read_window p.before p.after found.0 found.1 answer d) }

-- what a later line reads under its number was made before, and is what it was
module _ (old : Ledger) (later : List Ledger) (chain : Chain old later) (i k : ℕ) (pool : Name) (n : ℕ) (o z : Observation) (made : MadeAt old later i pool n o)
    (reads : observation_at (end_of old (take k later)).observations n ≡ Some z) where
  made_before : i < k
  made_before = elim (cases_lt i k) [
    | inl less ↦ less
    | inr past ↦ absurd (let both : None ≡ Some z = sym made.fresh ∙ remembers_between k i old later past chain n z reads in cc)
  ]

  made_same : z ≡ o
  made_same = one_value (observation_at (end_of old (take k later)).observations n) z o reads (remembers_between (suc i) k old later (omega (arith, made_before)) chain n o made.seen.found)

module _ (old : Ledger) (later : List Ledger) (chain : Chain old later) (i j k : ℕ) (pool pool2 : Name) (a b : ℕ) (x y : Observation) (told : Averages)
    (made : MadeAt old later i pool a x) (made2 : MadeAt old later j pool2 b y) (told_there : ReadAt old later k a b told) where
  abbrev r : HasRead (end_of old (take k later)) a b told
  r = told_there.read

  between : Between x y told
  between = subst (λ (o : Observation). Between o y told) (made_same old later chain i k pool a x r.x made r.first)
      (subst (λ (o : Observation). Between r.x o told) (made_same old later chain j k pool2 b y r.y made2 r.second) r.between)

  -- the second was made after the first, since its time is later
  in_turn : i < j
  in_turn = elim (cases_lt i j) [
    | inl less ↦ less
    | inr past ↦ (let grows = time_between (suc j) (suc i) old later (omega (arith, past)) chain in
        let x_at : x.time ≡ (end_of old (take (suc i) later)).time = ap (λ (o : Observation). o.time) made.seen.is in
        let y_at : y.time ≡ (end_of old (take (suc j) later)).time = ap (λ (o : Observation). o.time) made2.seen.is in
        absurd (omega (arith, grows, x_at, y_at, between.later)))
  ]

  abbrev start : Ledger
  start = end_of old (take (suc i) later)

  abbrev from_there : List Ledger
  from_there = take (j - i) (drop (suc i) later)

  ends_there : end_of old (take (suc j) later) ≡ end_of start from_there
  ends_there =
      let less = in_turn in
      let whole : suc i + (j - i) ≡ suc j = omega (arith, less) in
      sym (end_more (suc i) (j - i) old later ∙ ap (λ (n : ℕ). end_of old (take n later)) whole)

  are_weighted : AreWeighted pool start from_there told
  are_weighted = weighted pool pool2 a b x y told start from_there made.rest (chain_take (j - i) start (drop (suc i) later) (chain_drop (suc i) old later chain))
      (subst IsAtRest ends_there made2.rest) made.seen (subst (Observed pool2 b y) ends_there made2.seen) between

  tells_weighted : AreWeighted pool (get_or later i old) (stretch later i j) told
  tells_weighted =
      subst (λ (n : ℕ). AreWeighted pool (get_or later i old) (take (j - i) (drop n later)) told) (sym (add-one i))
      (subst (λ (l : Ledger). AreWeighted pool l from_there told) (sym made.at) are_weighted)

pub tells_averages : (old : Ledger) (number : ℕ) (lines : List Line) (replies : List Reply) (new : Ledger) → FairRun old number lines replies new → TellsAverages old number lines replies
tells_averages old number lines replies new run =
    let t = through FairStep old number lines replies new run in
    record {
      later = t.later;
      run = plain_run old number lines replies t.later t.run;
      averages = λ i j k pool pool2 a b told made made2 tells.
          tells_weighted old t.later (chain_of old number lines replies t.later t.run) i j k pool pool2 a b made.1 made2.1 told (made_at old number lines replies t.later t.run i made.0 pool a made.1 made.2)
          (made_at old number lines replies t.later t.run j made2.0 pool2 b made2.1 made2.2) (read_at old number lines replies t.later t.run k a b told tells);
    }
