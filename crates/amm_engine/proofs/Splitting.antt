-- What a split came to is what it may come to.
use Rattle.std.proofs.Common.{◌≡◌, ◌+◌, ℕ, List, false, length, nat_le, Result, Ok, Err, refl, arith, sym, subst}
use Rattle.std.proofs.lemmas.Bool.Decides.{nat_tests}
use Rattle.amm_model.specs.declared.fault.Fault.{Fault}
use Rattle.amm_model.specs.declared.fault.Fault.TheVariants as faults
use Rattle.amm_model.specs.declared.fault.Refusal.{Refusal}
use Rattle.amm_model.specs.declared.fault.Refusal.TheVariants as code
use Rattle.amm_model.specs.declared.limits.TheConstants.{QUOTE_LIMIT}
use Rattle.amm_model.specs.declared.reply.Answer.{Answer}
use Rattle.amm_model.specs.declared.reply.Answer.TheVariants as answers
use Rattle.amm_model.specs.declared.route.Quote.{Quote}
use Rattle.amm_model.specs.CommandView as command
use Rattle.amm_model.specs.CommandView.{CommandView}
use Rattle.amm_model.specs.Ledger.{Ledger, with_quote}
use Rattle.amm_model.specs.Market.{IsProblemIn}
use Rattle.amm_model.specs.Meaning.{MayComeTo, as_answer}
use Rattle.amm_model.specs.Outcome.{Made, Outcome}
use Rattle.amm_model.specs.Postings.{add_quote}
use Rattle.amm_model.specs.SplitAnswers.{HasNoRoute, IsSplitAnswer}
use Rattle.amm_model.specs.Splits.{IsUnroutable, Routes, may_split}
use Rattle.amm_state.specs.Tx.{TxView, Meets, mark_of}
use Rattle.amm_state.specs.declared.mark.Mark.TheVariants as marks
use Rattle.amm_engine.specs.Commands.{DoesCommand}
use Rattle.amm_engine.proofs.Doing.{does}
use Rattle.amm_engine.proofs.KeptQuotes.{room_for_quote}

module _ (old : Ledger) (s t : List ℕ) (d : ℕ) where
  -- what the search ends with, where a split may be tried
  routed : (outcome : Outcome Answer) → may_split old s t d ≡ Ok tt → Routes old s t d outcome → MayComeTo old (command.split s t d) outcome
  unfolding MayComeTo
  routed outcome may routes = rw may routes

  -- a split that may not be tried
  pub split_refused : (why : Refusal) → may_split old s t d ≡ Err why → MayComeTo old (command.split s t d) (Err why)
  unfolding MayComeTo
  split_refused why is = rw is refl

  -- nothing can be routed
  pub split_unroutable : (why : Refusal) → may_split old s t d ≡ Ok tt → (why ≡ code.NoRoute) × IsUnroutable old s t d → MayComeTo old (command.split s t d) (Err why)
  split_unroutable why may none = routed (Err why) may none

  -- a quote is kept
  pub split_kept : (quote : Quote) → may_split old s t d ≡ Ok tt → IsProblemIn old s t d quote.problem → (HasNoRoute quote.problem → ⊥) → IsSplitAnswer quote
      → MayComeTo old (command.split s t d) (as_answer (λ number. answers.Split number quote) (add_quote old quote))
  split_kept quote may problem some split =
      let room = room_for_quote old s t d tt may in
      let free : nat_le QUOTE_LIMIT (length old.quotes) ≡ false = grind (arith, nat_tests) in
      let made : Made Answer = record { ledger = with_quote old quote; answer = answers.Split (length old.quotes + 1) quote } in
      rw free (routed (Ok made) may (record { quote = quote; problem = problem; some = some; split = split; kept = refl; told = refl }))

module _ (old new : TxView) (s t : List ℕ) (d : ℕ) (ledger : Ledger) (same : ledger ≡ old.present) where
  abbrev asked : CommandView
  asked = command.split s t d

  -- a call that was not allowed
  pub does_not_split : (why : Refusal) (fault : Fault) → may_split ledger s t d ≡ Err why → fault ≡ faults.Refused why → new ≡ record old { mark = marks.Refused why } → DoesCommand old new asked (Err fault)
  does_not_split why fault may is after =
      subst (λ (f : Fault). DoesCommand old new asked (Err f)) (sym is)
      (subst (λ (n : TxView). DoesCommand old n asked (Err (faults.Refused why))) (sym after)
      (record { outcome = Err why; comes = split_refused old.present s t d why (subst (λ (l : Ledger). may_split l s t d ≡ Err why) same may); meets = record { gives = refl; opening = refl; mark = refl } }))

  -- a call that found no quote
  pub does_not_route : (fault given : Fault) → may_split ledger s t d ≡ Ok tt → ((why : Refusal) → fault ≡ faults.Refused why → (why ≡ code.NoRoute) × IsUnroutable ledger s t d)
      → given ≡ fault → new ≡ record old { mark = mark_of fault } → DoesCommand old new asked (Err given)
  does_not_route fault given may none is after =
      subst (λ (f : Fault). DoesCommand old new asked (Err f)) (sym is)
      (subst (λ (n : TxView). DoesCommand old n asked (Err fault)) (sym after) (by fault none))
    where
      by : (f : Fault) → ((why : Refusal) → f ≡ faults.Refused why → (why ≡ code.NoRoute) × IsUnroutable ledger s t d) → DoesCommand old (record old { mark = mark_of f }) asked (Err f)
      by (faults.Refused why) none = record {
        outcome = Err why;
        comes = subst (λ (l : Ledger). MayComeTo l asked (Err why)) same (split_unroutable ledger s t d why may (none why refl));
        meets = record { gives = refl; opening = refl; mark = refl };
      }
      by faults.Memory none = record { opening = refl; mark = refl }

  -- a call that found one
  pub does_split : (quote : Quote) (result : Result Answer Fault) → may_split ledger s t d ≡ Ok tt → IsProblemIn ledger s t d quote.problem → (HasNoRoute quote.problem → ⊥) → IsSplitAnswer quote
      → Meets old new result (as_answer (λ number. answers.Split number quote) (add_quote old.present quote)) → DoesCommand old new asked result
  does_split quote result may problem some split meets =
      does old new asked result _ (subst (λ (l : Ledger). MayComeTo l asked (as_answer (λ number. answers.Split number quote) (add_quote l quote))) same (split_kept ledger s t d quote may problem some split)) meets
