-- Steps that are run one after another, seen as their moves.
use Rattle.std.proofs.Common.{◌≡◌, ◌<◌, ◌≤◌, ◌+◌, ℕ, suc, List, length, drop, get_or, Vec, Global, Result, Ok, Err, OnOk, refl, sym, ap, ◌∙◌, subst, add-one, drop-cons}
use Rattle.std.proofs.lemmas.List.{drop_all}
use Rattle.amm_model.specs.declared.command.Step.{Step}
use Rattle.amm_model.specs.declared.command.Step as steps
use Rattle.amm_names.specs.declared.holder.Holder.{Holder}
use Rattle.amm_names.specs.declared.holder.Holder.TheVariants as holders
use Rattle.amm_model.specs.declared.pair.PairRecord.{PairRecord}
use Rattle.amm_model.specs.declared.pair.SwapReceipt.{SwapReceipt}
use Rattle.amm_model.specs.declared.fault.Refusal.{Refusal}
use Rattle.amm_model.specs.declared.reply.Answer.{Answer}
use Rattle.amm_model.specs.declared.reply.Answer.TheVariants as answers
use Rattle.amm_model.specs.Operations.{lend, open_loan, give_back}
use Rattle.amm_model.specs.declared.fault.Fault.{Fault}
use Rattle.amm_model.specs.declared.fault.Fault.TheVariants as faults
use Rattle.amm_model.specs.Outcome.{◌>>=◌, Made, Outcome}
use Rattle.amm_model.specs.Ledger.{Ledger}
use Rattle.amm_model.specs.Pools.{Terms}
use Rattle.amm_model.specs.Later.{Later}
use Rattle.amm_model.specs.Sound.{IsOpen}
use Rattle.amm_model.specs.CommandView as view
use Rattle.amm_model.specs.CommandView.{Move, Moves, move_of_step, moves_of_steps}
use Rattle.amm_model.specs.Fits.{FitsMove, FitMoves}
use Rattle.amm_model.specs.Meaning.{meaning, meaning_of_all, as_answer}
use Rattle.amm_model.proofs.Moves.{move_of-Flash}
use Rattle.amm_state.specs.Tx.{TxView, Accepts, Meets}
use Rattle.amm_state.specs.declared.mark.Mark.TheVariants as marks
use Rattle.amm_model.proofs.Guards.{Given, given, same_answer}
use Rattle.amm_state.proofs.TxLemmas.{meets_after}
use Rattle.amm_pair.proofs.Laters.{later_loan}

-- the steps of a loan that fits fit
pub inner_fit : (step : Step) (pool : List ℕ) (out0 out1 : ℕ) (inside : Vec Step Global) (given : List Step) → given ≡ inside.items → step ≡ steps.Flash pool out0 out1 inside → FitsMove (move_of_step step) → FitMoves (moves_of_steps given)
inner_fit step pool out0 out1 inside given same is fits =
    subst (λ (ss : List Step). FitMoves (moves_of_steps ss)) (sym same) (subst FitsMove (ap move_of_step is ∙ move_of-Flash pool out0 out1 inside) fits).1.1

-- a loan that is open stays open while steps run
pub still_open : (old new : Ledger) (loan : Terms) → Later old new → IsOpen old loan → IsOpen new loan
still_open old new loan later open_loan = record { there = later.locked loan.pool loan.pair open_loan.there open_loan.locked; locked = open_loan.locked }

-- a call that left the mark clean was accepted
pub clean_later : {A : Type 0} (old new : TxView) (answer : Result A Fault) (outcome : Outcome A) → Meets old new answer outcome → OnOk answer (Later old.present new.present)
    → new.mark ≡ marks.Clean → Later old.present new.present
clean_later old new (Ok a) outcome meets later clean = later
clean_later old new (Err (faults.Refused why)) outcome meets later clean = absurd (let both : marks.Refused why ≡ marks.Clean = sym meets.mark ∙ clean in cc)
clean_later old new (Err faults.Memory) outcome meets later clean = absurd (let both : marks.NoMemory ≡ marks.Clean = sym meets.mark ∙ clean in cc)

-- the next step, and those behind it
pub next_move : (ss : List Step) (i : ℕ) (step : Step) → i < length ss → step ≡ get_or ss i step → moves_of_steps (drop i ss) ≡ view.move (move_of_step step) (moves_of_steps (drop (i + 1) ss))
next_move ss i step below is =
    ap (λ (k : List Step). moves_of_steps k) (drop-cons ss i step below) ∙ ap (λ (s : Step). view.move (move_of_step s) (moves_of_steps (drop (suc i) ss))) (sym is)
    ∙ ap (λ k. view.move (move_of_step step) (moves_of_steps (drop k ss))) (sym (add-one i))

pub no_more_moves : (ss : List Step) (i : ℕ) → length ss ≤ i → moves_of_steps (drop i ss) ≡ view.no_moves
no_more_moves ss i past = ap (λ (k : List Step). moves_of_steps k) (drop_all i ss past)

module _ (old mid : TxView) (actor : List ℕ) (m : Move) (now rest whole : Moves) (head : now ≡ view.move m rest)
    (left : meaning_of_all mid.present actor now ≡ meaning_of_all old.present actor whole) where
  from_here : (meaning mid.present actor m >>= (λ made. meaning_of_all made.ledger actor rest)) ≡ meaning_of_all old.present actor whole
  unfolding meaning_of_all
  from_here = ap (meaning_of_all mid.present actor) (sym head) ∙ left

  -- the first step that fails ends them
  pub first_fault : (new : TxView) (fault : Fault) → mid.opening ≡ old.opening → Meets {A = Answer} mid new (Err fault) (meaning mid.present actor m) → Meets {A = Unit {0}} old new (Err fault) (meaning_of_all old.present actor whole)
  first_fault new (faults.Refused why) same meets = record { gives = sym from_here ∙ ap (λ o. o >>= (λ made. meaning_of_all made.ledger actor rest)) meets.gives; opening = meets.opening ∙ same; mark = meets.mark }
  first_fault new faults.Memory same meets = record { opening = meets.opening ∙ same; mark = meets.mark }

  -- after an accepted step the others are left
  pub one_less : (new : TxView) (answer : Answer) → Accepts mid new answer (meaning mid.present actor m) → meaning_of_all new.present actor rest ≡ meaning_of_all old.present actor whole
  one_less new answer accepted = sym (ap (λ o. o >>= (λ made. meaning_of_all made.ledger actor rest)) accepted.gives) ∙ from_here

-- no step is left
pub all_done : (old mid : TxView) (actor : List ℕ) (now whole : Moves) → now ≡ view.no_moves → meaning_of_all mid.present actor now ≡ meaning_of_all old.present actor whole → meaning_of_all old.present actor whole ≡ Ok (record { ledger = mid.present; answer = tt })
unfolding meaning_of_all
all_done old mid actor now whole none left = sym left ∙ ap (meaning_of_all mid.present actor) none

-- ---- a loan with its steps

-- what a loan to the actor, its steps and its return give
abbrev pub flashed : Ledger → (actor pool : List ℕ) → (out0 out1 : ℕ) → Moves → Outcome Answer
flashed ledger actor pool out0 out1 ms =
    lend ledger pool out0 out1 (holders.User actor) >>= (λ lent. meaning_of_all lent.ledger actor ms >>= (λ ran. as_answer answers.Flash (give_back ran.ledger pool out0 out1)))

pub flash_opened : (ledger : Ledger) (actor pool : List ℕ) (out0 out1 : ℕ) (ms : Moves) → meaning ledger actor (view.flash pool out0 out1 ms) ≡ flashed ledger actor pool out0 out1 ms
unfolding meaning
flash_opened ledger actor pool out0 out1 ms = refl

same_code : {A : Type 0} (x y : Refusal) → (◌≡◌ {A = Result A Refusal} (Err x) (Err y)) → x ≡ y
same_code x y e = cc

still_refused : {A B : Type 0} (outcome : Result A Refusal) (form : A → B) (why : Refusal) → (outcome >>= (λ x. Ok (form x))) ≡ Err why → outcome ≡ Err why
still_refused (Ok x) form why is = cc
still_refused (Err other) form why is = ap Err (same_code other why is)

abbrev ok_made : Ledger → PairRecord → Outcome PairRecord
ok_made ledger pair = Ok (record { ledger = ledger; answer = pair })

module _ (actor pool : List ℕ) (out0 out1 : ℕ) (ms : Moves) (old : TxView) where
  abbrev to : Holder
  to = holders.User actor

  abbrev whole : Outcome Answer
  whole = flashed old.present actor pool out0 out1 ms

  -- no loan was made
  pub not_lent : (new : TxView) (fault : Fault) → Meets {A = Terms} old new (Err fault) (open_loan old.present pool out0 out1 to) → Meets {A = Answer} old new (Err fault) whole
  not_lent new (faults.Refused why) meets =
      let refused = still_refused (lend old.present pool out0 out1 to) _ why meets.gives in
      record { gives = ap (λ (o : Outcome PairRecord). o >>= (λ lent. meaning_of_all lent.ledger actor ms >>= (λ ran. as_answer answers.Flash (give_back ran.ledger pool out0 out1)))) refused; opening = meets.opening; mark = meets.mark }
  not_lent new faults.Memory meets = record { opening = meets.opening; mark = meets.mark }

  module _ (lent : TxView) (loan : Terms) (opened : Accepts old lent loan (open_loan old.present pool out0 out1 to)) where
    made : Given {B = Made Terms} (lend old.present pool out0 out1 to) (λ l. Ok (record { ledger = l.ledger; answer = record { pool = pool; out0 = out0; out1 = out1; pair = l.answer } })) (record { ledger = lent.present; answer = loan })
    made = given (lend old.present pool out0 out1 to) _ (record { ledger = lent.present; answer = loan }) opened.gives

    same : ◌≡◌ {A = Made Terms} (record { ledger = made.value.ledger; answer = record { pool = pool; out0 = out0; out1 = out1; pair = made.value.answer } }) (record { ledger = lent.present; answer = loan })
    same = same_answer _ (record { ledger = lent.present; answer = loan }) made.after

    lends : Accepts old lent loan.pair (lend old.present pool out0 out1 to)
    lends = record {
      gives = made.was ∙ ap (λ (k : Made Terms). ok_made k.ledger k.answer.pair) same;
      opening = opened.opening;
      mark = opened.mark;
    }

    returns : (ledger : Ledger) → give_back ledger pool out0 out1 ≡ give_back ledger loan.pool loan.out0 loan.out1
    returns ledger = ap (λ (k : Made Terms). give_back ledger k.answer.pool k.answer.out0 k.answer.out1) same

    -- a step of the loan failed
    pub not_run : (new : TxView) (fault : Fault) → Meets {A = Unit {0}} lent new (Err fault) (meaning_of_all lent.present actor ms) → Meets {A = Answer} old new (Err fault) whole
    not_run new fault meets =
        meets_after old lent new loan.pair (lend old.present pool out0 out1 to) _ (Err fault) lends (still_err new fault meets)
      where
        still_err : (new : TxView) (fault : Fault) → Meets {A = Unit {0}} lent new (Err fault) (meaning_of_all lent.present actor ms)
            → Meets {A = Answer} lent new (Err fault) (meaning_of_all lent.present actor ms >>= (λ ran. as_answer answers.Flash (give_back ran.ledger pool out0 out1)))
        still_err new (faults.Refused why) meets = record { gives = ap (λ (o : Outcome (Unit {0})). o >>= (λ ran. as_answer answers.Flash (give_back ran.ledger pool out0 out1))) meets.gives; opening = meets.opening; mark = meets.mark }
        still_err new faults.Memory meets = record { opening = meets.opening; mark = meets.mark }

    module _ (ran : TxView) (runs : Accepts lent ran tt (meaning_of_all lent.present actor ms)) where
      after : (new : TxView) (answer : Result Answer Fault) → Meets ran new answer (as_answer answers.Flash (give_back ran.present pool out0 out1)) → Meets old new answer whole
      after new answer meets =
          meets_after old lent new loan.pair (lend old.present pool out0 out1 to) _ answer lends
          (meets_after lent ran new tt (meaning_of_all lent.present actor ms) _ answer runs meets)

      -- the loan was not paid back
      pub not_returned : (new : TxView) (fault : Fault) → Meets {A = SwapReceipt} ran new (Err fault) (give_back ran.present loan.pool loan.out0 loan.out1) → Meets {A = Answer} old new (Err fault) whole
      not_returned new (faults.Refused why) meets =
          after new (Err (faults.Refused why)) (record { gives = ap (as_answer answers.Flash) (returns ran.present ∙ meets.gives); opening = meets.opening; mark = meets.mark })
      not_returned new faults.Memory meets = after new (Err faults.Memory) (record { opening = meets.opening; mark = meets.mark })

      -- the loan was paid back
      pub returned : (new : TxView) (receipt : SwapReceipt) → Accepts ran new receipt (give_back ran.present loan.pool loan.out0 loan.out1) → Accepts old new (answers.Flash receipt) whole
      returned new receipt accepted =
          after new (Ok (answers.Flash receipt)) (record { gives = ap (as_answer answers.Flash) (returns ran.present ∙ accepted.gives); opening = accepted.opening; mark = accepted.mark })

      -- and what is promised of a later ledger holds after it
      pub returned_later : (new : TxView) (receipt : SwapReceipt) → Later lent.present ran.present → Accepts ran new receipt (give_back ran.present loan.pool loan.out0 loan.out1) → Later old.present new.present
      returned_later new receipt within accepted =
          later_loan old.present pool out0 out1 to (record { ledger = lent.present; answer = loan.pair }) lends.gives ran.present within
          (record { ledger = new.present; answer = receipt }) (returns ran.present ∙ accepted.gives)
