-- A quote whose pools are as they were pays what it says, and no leg of it is refused: its legs are
-- those of a problem with one part.
use Rattle.std.proofs.Common.{◌≡◌, ◌≢◌, ◌≤◌, not, ℕ, zero, suc, nat_lt, Bool, true, false, [], ◌∷◌, Ok, Err, inl, inr, refl, sym, ap, arith, subst}
use Rattle.std.specs.Prelude.{All}
use Rattle.std.proofs.lemmas.Bool.{le-ltb}
use Rattle.std.proofs.lemmas.Bool.Decides.{nat_tests}
use Rattle.amm_names.specs.Names.{Name}
use Rattle.amm_names.specs.declared.holder.Holder.TheVariants as holders
use Rattle.amm_names.specs.declared.holder.Asset.TheVariants as assets
use Rattle.amm_model.specs.declared.problem.Part.{Part}
use Rattle.amm_model.specs.declared.route.OpenQuote.{OpenQuote}
use Rattle.amm_model.specs.declared.route.Quote.{Quote}
use Rattle.amm_model.specs.declared.fault.Refusal.{Refusal}
use Rattle.amm_model.specs.declared.fault.Refusal.TheVariants as code
use Rattle.amm_model.specs.Outcome.{◌>>=◌, refuse_if, Made, Outcome, ledger_only}
use Rattle.amm_model.specs.Ledger.{Ledger, balance}
use Rattle.amm_model.specs.Routing.{IsProblem, open_view}
use Rattle.amm_model.specs.Legs.{Delivers}
use Rattle.amm_model.specs.Settlement.{IsDue, IsPaidAsQuoted, IsCodeOfSettling, pools_of_legs, any_locked, all_as_kept, perform_legs, settle}
use Rattle.amm_model.proofs.Guards.{not_refused, same_answer}
use Rattle.amm_settle.proofs.LegsPay.{legs_pay, not_both}

-- what the one part has, each part has
of_one : (P : Part → Type 0) (part : Part) → P part → All P (part ∷ [])
of_one P part has zero d below = has
of_one P part has (suc k) d below = absurd (omega arith)

-- the quote as one of a problem with the one part
abbrev open_quote : Quote → OpenQuote
open_quote quote = record { problem = open_view quote.problem; prices = quote.prices; route = quote.route; delivered = quote.delivered; bound = quote.bound }

-- A quote was settled.
pub record SettleDone (old : Ledger) (actor : Name) (quote : Quote) : Type 0 where
  pub ledger : Ledger
  pub is : perform_legs old actor quote.problem.pools quote.route.legs ≡ ledger_only ledger
  pub paid : IsPaidAsQuoted old ledger actor quote

-- Where the tests pass, the legs are performed and pay: those of the problem with the one part.
pub quote_pays : (old : Ledger) (actor : Name) (quote : Quote) → IsProblem quote.problem → Delivers (open_view quote.problem) quote.route.legs quote.delivered → any_locked old (pools_of_legs quote) ≡ false
    → all_as_kept old (pools_of_legs quote) ≡ true → nat_lt (balance old (assets.Token quote.problem.s) (holders.User actor)) quote.problem.d ≡ false → SettleDone old actor quote
quote_pays old actor quote sound delivers free kept funded =
    let funds : quote.problem.d ≤ balance old (assets.Token quote.problem.s) (holders.User actor) = grind (arith, nat_tests) in
    let done = legs_pay old actor (open_quote quote) sound delivers free kept
    (of_one (λ (part : Part). part.amount ≤ balance old (assets.Token part.token) (holders.User actor)) (record { token = quote.problem.s; amount = quote.problem.d }) funds) in
    record {
      ledger = done.ledger;
      is = done.is;
      paid = record {
        gets = done.sold.gets;
        pays = done.sold.pays (record { token = quote.problem.s; amount = quote.problem.d }) (0, omega arith, refl);
        keeps = λ other apart. done.sold.keeps other (of_one (λ (part : Part). other ≢ assets.Token part.token) (record { token = quote.problem.s; amount = quote.problem.d }) apart);
        others = done.sold.others;
      };
    }

-- ---- the codes

-- four tests before what has no code of its own
four_codes : {A : Type 0} (late locked stale poor : Bool) (rest : Outcome A) → (locked ≡ false → stale ≡ false → poor ≡ false → (why : Refusal) → rest ≡ Err why → ⊥) → (why : Refusal)
    → (refuse_if late code.Expired >>= λ _. (refuse_if locked code.Locked >>= λ _. (refuse_if stale code.Stale >>= λ _. (refuse_if poor code.Funds >>= λ _. rest)))) ≡ Err why → IsCodeOfSettling why
four_codes true locked stale poor rest never why is = inl (let e : why ≡ code.Expired = cc in e)
four_codes false true stale poor rest never why is = inr (inl (let e : why ≡ code.Locked = cc in e))
four_codes false false true poor rest never why is = inr (inr (inl (let e : why ≡ code.Stale = cc in e)))
four_codes false false false true rest never why is = inr (inr (inr (let e : why ≡ code.Funds = cc in e)))
four_codes false false false false rest never why is = absurd (never refl refl refl why is)

not_true : (b : Bool) → not b ≡ false → b ≡ true
not_true true e = refl
not_true false e = cc

-- no code of a leg ever comes
pub settle_codes : (old : Ledger) (actor : Name) (quote : Quote) (deadline : ℕ) → IsProblem quote.problem → Delivers (open_view quote.problem) quote.route.legs quote.delivered → (why : Refusal) → settle old actor quote deadline ≡ Err why → IsCodeOfSettling why
unfolding settle
settle_codes old actor quote deadline sound delivers why is =
    four_codes (nat_lt deadline old.time) (any_locked old (pools_of_legs quote)) (not (all_as_kept old (pools_of_legs quote)))
    (nat_lt (balance old (assets.Token quote.problem.s) (holders.User actor)) quote.problem.d) _
    (λ free kept funded other e. (let d = quote_pays old actor quote sound delivers free (not_true _ kept) funded in
    let f : (perform_legs old actor quote.problem.pools quote.route.legs >>= λ performed. Ok (record { ledger = performed.ledger; answer = quote.delivered })) ≡ Err other = e in
    not_both _ other (rw (d.is) at f)))
    why is

-- An accepted settlement tells what the quote delivers, and pays it.
pub settle_paid : (old : Ledger) (actor : Name) (quote : Quote) (deadline : ℕ) (made : Made ℕ) → IsProblem quote.problem → Delivers (open_view quote.problem) quote.route.legs quote.delivered → settle old actor quote deadline ≡ Ok made
    → (made.answer ≡ quote.delivered) × IsPaidAsQuoted old made.ledger actor quote
unfolding settle
settle_paid old actor quote deadline made sound delivers is =
    let timely = not_refused (nat_lt deadline old.time) code.Expired _ made is in
    let free = not_refused (any_locked old (pools_of_legs quote)) code.Locked _ made timely.1 in
    let kept = not_refused (not (all_as_kept old (pools_of_legs quote))) code.Stale _ made free.1 in
    let funded = not_refused (nat_lt (balance old (assets.Token quote.problem.s) (holders.User actor)) quote.problem.d) code.Funds _ made kept.1 in
    let d = quote_pays old actor quote sound delivers free.0 (not_true _ kept.0) funded.0 in
    let e = same_answer (record { ledger = d.ledger; answer = quote.delivered }) made (rw (d.is) at funded.1) in (
      ap (λ (m : Made ℕ). m.answer) (sym e),
      subst (λ (l : Ledger). IsPaidAsQuoted old l actor quote) (ap (λ (m : Made ℕ). m.ledger) e) d.paid,
    )

-- One that has to be accepted is.
pub settle_due : (old : Ledger) (actor : Name) (quote : Quote) (deadline : ℕ) → IsProblem quote.problem → Delivers (open_view quote.problem) quote.route.legs quote.delivered → IsDue old actor quote deadline
    → (made : Made ℕ) × (settle old actor quote deadline ≡ Ok made) × (made.answer ≡ quote.delivered)
unfolding settle
settle_due old actor quote deadline sound delivers due =
    let timely : nat_lt deadline old.time ≡ false = le-ltb deadline old.time due.in_time in
    let funded : nat_lt (balance old (assets.Token quote.problem.s) (holders.User actor)) quote.problem.d ≡ false =
    le-ltb (balance old (assets.Token quote.problem.s) (holders.User actor)) quote.problem.d due.funds in
    let d = quote_pays old actor quote sound delivers due.free due.kept funded in
    (record { ledger = d.ledger; answer = quote.delivered }, rw (timely, due.free, due.kept, funded, d.is) refl, refl)
