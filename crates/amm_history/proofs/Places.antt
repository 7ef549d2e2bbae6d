-- The places of a run through ledgers: the line there, the ledgers before and after it, and what it
-- answered.
use Rattle.std.proofs.Common.{◌≡◌, ◌≢◌, ◌≤◌, ◌<◌, ◌+◌, ℕ, zero, suc, List, [], ◌∷◌, take, Some, Result, Ok, Err, ◌⊎◌, inl, inr, refl, sym, ap, subst, arith}
use Rattle.std.specs.Prelude.{slice_get, MatchResult}
use Rattle.std.specs.List.{Contains, slice_index_or}
use Rattle.std.proofs.lemmas.List.Elements.{Contains-append_cases}
use Rattle.amm_model.specs.declared.fault.Refusal.{Refusal}
use Rattle.amm_model.specs.declared.line.Line.{Line}
use Rattle.amm_model.specs.declared.line.Line.TheVariants.{Blank, Whole, Long}
use Rattle.amm_model.specs.declared.reply.Answer.{Answer}
use Rattle.amm_model.specs.declared.reply.Answer.TheVariants as answers
use Rattle.amm_model.specs.declared.reply.Reply.{Reply}
use Rattle.amm_model.specs.CommandView.{CommandView}
use Rattle.amm_model.specs.Outcome.{Made, Outcome}
use Rattle.amm_model.specs.Ledger.{Ledger}
use Rattle.amm_model.specs.Meaning.{MayComeTo}
use Rattle.amm_model.specs.Answers.{ComesTo, answer_of, ledger_after}
use Rattle.amm_model.specs.Reading.{command_of_line}
use Rattle.amm_model.specs.Runs.{OfOneLine, RunBy, Step, FairStep}
use Rattle.amm_history.specs.History.{RunThrough, IsDone}
use Rattle.amm_history.proofs.Lines.{step_onward}
use Rattle.amm_history.proofs.Chains.{Chain, end_of}

abbrev pub reply_of : ℕ → Answer → Reply
reply_of number answer = record { line = number; answer = answer }

-- ---- runs with their ledgers

-- every run is one through the ledgers that its lines leave, of which the last is its end
pub record Through (One : OfOneLine) (old : Ledger) (number : ℕ) (lines : List Line) (replies : List Reply) (new : Ledger) : Type 0 where
  pub later : List Ledger
  pub run : RunThrough One old number lines replies later
  pub ends : end_of old later ≡ new

pub through : (One : OfOneLine) (old : Ledger) (number : ℕ) (lines : List Line) (replies : List Reply) (new : Ledger) → RunBy One old number lines replies new → Through One old number lines replies new
through One old number [] replies new run = record { later = []; run = run.0; ends = sym run.1 }
through One old number (line ∷ lines) replies new run =
    let rest = through One run.2 (number + 1) lines run.1 new run.4 in
    record { later = run.2 ∷ rest.later; run = (run.0, run.1, run.3, rest.run, run.5); ends = rest.ends }

pub plain_run : (old : Ledger) (number : ℕ) (lines : List Line) (replies : List Reply) (later : List Ledger) → RunThrough FairStep old number lines replies later → RunThrough Step old number lines replies later
plain_run old number [] replies [] run = run
plain_run old number [] replies (next ∷ later) run = absurd run
plain_run old number (line ∷ lines) replies [] run = absurd run
plain_run old number (line ∷ lines) replies (next ∷ later) run = (run.0, run.1, run.2.step, plain_run next (number + 1) lines run.1 later run.3, run.4)

pub chain_of : (old : Ledger) (number : ℕ) (lines : List Line) (replies : List Reply) (later : List Ledger) → RunThrough FairStep old number lines replies later → Chain old later
chain_of old number [] replies [] run = tt
chain_of old number [] replies (next ∷ later) run = absurd run
chain_of old number (line ∷ lines) replies [] run = absurd run
chain_of old number (line ∷ lines) replies (next ∷ later) run =
    (step_onward old number line run.0 next run.2.step, run.2.rest, chain_of next (number + 1) lines run.1 later run.3)

-- ---- the numbers of replies

contains_none : {X : Type 0} (x : X) → Contains [] x → ⊥
contains_none x c = let lt = c.1 in omega (arith, lt)

contains_one : {X : Type 0} (y x : X) → Contains (y ∷ []) x → y ≡ x
contains_one y x c = by c.0 c.1 c.2
  where
    by : (k : ℕ) → k < 1 → slice_index_or (y ∷ []) k x ≡ x → y ≡ x
    by zero lt is = is
    by (suc k) lt is = absurd (omega (arith, lt))

-- a line has replies with its number alone
step_number : (old : Ledger) (number : ℕ) (line : Line) (here : List Reply) (new : Ledger) (x : Reply) → Step old number line here new → Contains here x → x.line ≡ number
unfolding Step
step_number old number Blank here new x step c = absurd (contains_none x (subst (λ (rs : List Reply). Contains rs x) step.0 c))
step_number old number Long here new x step c = ap (λ (r : Reply). r.line) (sym (contains_one _ x (subst (λ (rs : List Reply). Contains rs x) step.2 c)))
step_number old number (Whole bytes) here new x step c = ap (λ (r : Reply). r.line) (sym (contains_one _ x (subst (λ (rs : List Reply). Contains rs x) step.2 c)))

-- and a run has those of its lines
run_numbers : (old : Ledger) (number : ℕ) (lines : List Line) (replies : List Reply) (later : List Ledger) (x : Reply) → RunThrough FairStep old number lines replies later → Contains replies x → number ≤ x.line
run_numbers old number [] replies [] x run c = absurd (contains_none x (subst (λ (rs : List Reply). Contains rs x) run c))
run_numbers old number [] replies (next ∷ later) x run c = absurd run
run_numbers old number (line ∷ lines) replies [] x run c = absurd run
run_numbers old number (line ∷ lines) replies (next ∷ later) x run c = elim (Contains-append_cases run.0 run.1 x (subst (λ (rs : List Reply). Contains rs x) run.4 c)) [
  | inl here ↦ (let e = step_number old number line run.0 next x run.2.step here in omega (arith, e))
  | inr there ↦ (let lt = run_numbers next (number + 1) lines run.1 later x run.3 there in omega (arith, lt))
]

-- ---- a place

-- The line at a place, with the ledgers before and after it, its replies, and what is behind it.
pub record Place (old : Ledger) (number : ℕ) (lines : List Line) (replies : List Reply) (later : List Ledger) (i : ℕ) (line : Line) : Type 0 where
  pub before : Ledger
  pub after : Ledger
  pub here : List Reply
  pub step : FairStep before (number + i) line here after
  pub until : before ≡ end_of old (take i later)
  pub reached : after ≡ end_of old (take (suc i) later)
  pub at : slice_get later i ≡ Some after
  pub mine : (answer : Answer) → Contains replies (reply_of (number + i) answer) → Contains here (reply_of (number + i) answer)

module _ (old : Ledger) (number : ℕ) (first : Line) (lines : List Line) (replies : List Reply) (next : Ledger) (later : List Ledger) (run : RunThrough FairStep old number (first ∷ lines) replies (next ∷ later)) (line : Line) where
  -- the replies are those of the first line, or those behind it
  sides : (x : Reply) → Contains replies x → ((x.line ≡ number) × Contains run.0 x) ⊎ ((number < x.line) × Contains run.1 x)
  sides x c = elim (Contains-append_cases run.0 run.1 x (subst (λ (rs : List Reply). Contains rs x) run.4 c)) [
    | inl here ↦ inl (step_number old number first run.0 next x run.2.step here, here)
    | inr there ↦ inr (let lt = run_numbers next (number + 1) lines run.1 later x run.3 there in omega (arith, lt), there)
  ]

  first_place : first ≡ line → Place old number (first ∷ lines) replies (next ∷ later) 0 line
  first_place is =
      let same : number ≡ number + 0 = omega arith in
      record {
        before = old;
        after = next;
        here = run.0;
        step = subst (λ (n : ℕ). FairStep old n line run.0 next) same (subst (λ (l : Line). FairStep old number l run.0 next) is run.2);
        until = refl;
        reached = refl;
        at = refl;
        mine = λ answer c. elim (sides (reply_of (number + 0) answer) c) [
          | inl both ↦ both.1
          | inr both ↦ (let lt = both.0 in absurd (omega (arith, lt)))
        ];
      }

  next_place : (i : ℕ) → Place next (number + 1) lines run.1 later i line → Place old number (first ∷ lines) replies (next ∷ later) (suc i) line
  next_place i p =
      let same : (number + 1) + i ≡ number + suc i = omega arith in
      record {
        before = p.before;
        after = p.after;
        here = p.here;
        step = subst (λ (n : ℕ). FairStep p.before n line p.here p.after) same p.step;
        until = p.until;
        reached = p.reached;
        at = p.at;
        mine = λ answer c. elim (sides (reply_of (number + suc i) answer) c) [
          | inl both ↦ (let e = both.0 in absurd (omega (arith, e)))
          | inr both ↦ subst (λ (n : ℕ). Contains p.here (reply_of n answer)) same (p.mine answer (subst (λ (n : ℕ). Contains run.1 (reply_of n answer)) (sym same) both.1))
        ];
      }

pub place_at : (old : Ledger) (number : ℕ) (lines : List Line) (replies : List Reply) (later : List Ledger) (i : ℕ) (line : Line) → RunThrough FairStep old number lines replies later → slice_get lines i ≡ Some line
    → Place old number lines replies later i line
place_at old number [] replies later i line run is = cc
place_at old number (first ∷ lines) replies [] i line run is = absurd run
place_at old number (first ∷ lines) replies (next ∷ later) zero line run is = first_place old number first lines replies next later run line (let same : first ≡ line = cc in same)
place_at old number (first ∷ lines) replies (next ∷ later) (suc i) line run is =
    next_place old number first lines replies next later run line i (place_at next (number + 1) lines run.1 later i line run.3 is)

-- ---- an accepted command

-- the command was accepted, with this answer
pub record Did (old : Ledger) (asked : CommandView) (answer : Answer) (new : Ledger) : Type 0 where
  pub made : Made Answer
  pub comes : MayComeTo old asked (Ok made)
  pub told : made.answer ≡ answer
  pub left : made.ledger ≡ new

did_by : (old : Ledger) (read : Result CommandView Refusal) (asked : CommandView) (outcome : Outcome Answer) (answer : Answer) (new : Ledger) → read ≡ Ok asked
    → MatchResult read (λ c. MayComeTo old c outcome) (λ why. outcome ≡ Err why) → new ≡ ledger_after old outcome → answer_of outcome ≡ answer → ((why : Refusal) → answers.Refused why ≢ answer)
    → Did old asked answer new
did_by old (Err other) asked outcome answer new read comes left told accepted = cc
did_by old (Ok c) asked (Err why) answer new read comes left told accepted = absurd (accepted why told)
did_by old (Ok c) asked (Ok made) answer new read comes left told accepted =
    record { made = made; comes = subst (λ (k : CommandView). MayComeTo old k (Ok made)) (let same : c ≡ asked = cc in same) comes; told = told; left = sym left }

pub did : (old : Ledger) (number : ℕ) (bytes : List ℕ) (here : List Reply) (new : Ledger) (asked : CommandView) (answer : Answer) → Step old number (Whole bytes) here new → command_of_line bytes ≡ Ok asked
    → Contains here (reply_of number answer) → ((why : Refusal) → answers.Refused why ≢ answer) → Did old asked answer new
unfolding Step ComesTo
did old number bytes here new asked answer step read c accepted =
    let told = contains_one (reply_of number (answer_of step.0)) (reply_of number answer) (subst (λ (rs : List Reply). Contains rs (reply_of number answer)) step.2 c) in
    did_by old (command_of_line bytes) asked step.0 answer new read step.1 step.3 (ap (λ (r : Reply). r.answer) told) accepted

-- what was done at a place, by its line
pub done_here : (old : Ledger) (number : ℕ) (lines : List Line) (replies : List Reply) (later : List Ledger) (i : ℕ) (asked : CommandView) (answer : Answer) (done : IsDone number lines replies i asked answer)
    (p : Place old number lines replies later i (Whole done.bytes)) → ((why : Refusal) → answers.Refused why ≢ answer) → Did p.before asked answer p.after
done_here old number lines replies later i asked answer done p accepted =
    did p.before (number + i) done.bytes p.here p.after asked answer p.step.step done.read (p.mine answer done.reply) accepted
