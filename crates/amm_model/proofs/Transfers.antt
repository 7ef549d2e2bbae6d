-- What an accepted transfer, issue or retirement leaves.
use Rattle.std.proofs.Common.{◌≡◌, ◌≢◌, ◌≤◌, ◌+◌, ℕ, nat_lt, Bool, true, false, Ok, inl, inr, refl, sym, ap, ◌∙◌, subst, arith}
use Rattle.std.proofs.lemmas.Bool.Decides.{nat_tests}
use Rattle.std.proofs.lemmas.Bool.{le-ltb}
use Rattle.std.specs.Prelude.{if◌then◌else◌}
use Rattle.amm_names.specs.declared.holder.Holder.{Holder}
use Rattle.amm_names.specs.declared.holder.Asset.{Asset}
use Rattle.amm_model.specs.declared.fault.Refusal.TheVariants as code
use Rattle.amm_names.specs.Order.{same_holder}
use Rattle.amm_model.specs.Ledger.{Ledger, balance, total, with_more, with_less, with_transfer}
use Rattle.amm_model.specs.Outcome.{Made, Outcome, ledger_only}
use Rattle.amm_model.specs.Postings.{transfer, issue, retire}
use Rattle.amm_model.specs.declared.limits.TheConstants.{AMOUNT_LIMIT}
use Rattle.amm_model.proofs.Guards.{past_refusal, same_answer}
use Rattle.amm_model.proofs.Names.{asset_cases}
use Rattle.amm_model.proofs.Balances.{Rest, rest_then, rest_same, Added, added_added, Taken, taken_kept, taken_taken}

-- n units of the asset went away from a holder, to another or to itself
pub record Sent (asset : Asset) (from : Holder) (n : ℕ) (old new : Ledger) : Type 0 where
  pub rest : Rest old new
  pub funds : n ≤ balance old asset from
  pub totals : (q : Asset) → total new q ≡ total old q
  pub grown : (q : Asset) (p : Holder) → p ≢ from → balance old q p ≤ balance new q p
  pub others : (q : Asset) (p : Holder) → q ≢ asset → balance new q p ≡ balance old q p
  pub least : balance old asset from ≤ balance new asset from + n

sent_to_oneself : (a : Asset) (f : Holder) (n : ℕ) (l : Ledger) → n ≤ balance l a f → Sent a f n l l
sent_to_oneself a f n l funds = record {
  rest = rest_same l;
  funds = funds;
  totals = λ q. refl;
  grown = λ q p other. omega arith;
  others = λ q p other. refl;
  least = omega arith;
}

sent_to_another : (a : Asset) (f t : Holder) (n : ℕ) (old mid new : Ledger) → n ≤ balance old a f → Taken a f n old mid → Added a t n mid new → Sent a f n old new
sent_to_another a f t n old mid new funds less more = record {
  rest = rest_then old mid new less.rest more.rest;
  funds = funds;
  totals = λ q. elim (asset_cases q a) [
    | inl e ↦ ap (total new) e ∙ same_total ∙ sym (ap (total old) e)
    | inr other ↦ more.totals q other ∙ less.totals q other
  ];
  grown = λ q p other. omega (arith, taken_kept a f n old mid less q p other, more.grown q p);
  others = λ q p other. more.others q p other ∙ less.others q p other;
  least = omega (arith, less.here, more.grown a f);
} where
  same_total : total new a ≡ total old a
  same_total = omega (arith, more.whole, less.whole)

pub transfer_sent : (l : Ledger) (a : Asset) (f t : Holder) (n : ℕ) (made : Made (Unit {0})) → transfer l a f t n ≡ Ok made → Sent a f n l made.ledger
unfolding transfer
transfer_sent l a f t n made is =
    let funded = past_refusal (nat_lt (balance l a f) n) code.Funds _ made is in
    let told : nat_lt (balance l a f) n ≡ false = funded.0 in
    let funds : n ≤ balance l a f = grind (arith, nat_tests) in
    by_test (same_holder f t) funds funded.1
  where
    by_test : (b : Bool) → n ≤ balance l a f → (◌≡◌ {A = Outcome (Unit {0})} (if b then ledger_only l else ledger_only (with_transfer l a f t n)) (Ok made)) → Sent a f n l made.ledger
    by_test true funds gives = let e = same_answer (record { ledger = l; answer = tt }) made gives in subst (λ (k : Made (Unit {0})). Sent a f n l k.ledger) e (sent_to_oneself a f n l funds)
    by_test false funds gives =
        let e = same_answer (record { ledger = with_transfer l a f t n; answer = tt }) made gives in
        subst (λ (k : Made (Unit {0})). Sent a f n l k.ledger) e (sent_to_another a f t n l (with_less l a f n) (with_transfer l a f t n) funds (taken_taken l a f n funds) (added_added (with_less l a f n) a t n))

pub retire_taken : (l : Ledger) (a : Asset) (f : Holder) (n : ℕ) (made : Made (Unit {0})) → retire l a f n ≡ Ok made → (n ≤ balance l a f) × Taken a f n l made.ledger
unfolding retire
retire_taken l a f n made is =
    let funded = past_refusal (nat_lt (balance l a f) n) code.Funds _ made is in
    let told : nat_lt (balance l a f) n ≡ false = funded.0 in
    let funds : n ≤ balance l a f = grind (arith, nat_tests) in
    let e = same_answer (record { ledger = with_less l a f n; answer = tt }) made funded.1 in
    (funds, subst (λ (k : Made (Unit {0})). Taken a f n l k.ledger) e (taken_taken l a f n funds))

-- an issue within the limit is granted
pub issue_granted : (l : Ledger) (a : Asset) (h : Holder) (n : ℕ) → total l a + n ≤ AMOUNT_LIMIT → issue l a h n ≡ ledger_only (with_more l a h n)
unfolding issue
issue_granted l a h n fits =
    let room : nat_lt AMOUNT_LIMIT (total l a + n) ≡ false = le-ltb AMOUNT_LIMIT (total l a + n) fits in
    rw room
