-- What each accepted operation of a pair promises of the ledger that it leaves, and a whole loan
-- with what runs in it.
use Rattle.std.proofs.Common.{◌≡◌, ◌≢◌, ℕ, List, Option, Some, IsSome, Ok, ◌≤◌, ◌*◌, inl, inr, refl, sym, ap, ◌∙◌, subst, arith}
use Rattle.amm_names.specs.declared.holder.Holder.{Holder}
use Rattle.amm_names.specs.declared.holder.Asset.TheVariants as assets
use Rattle.amm_names.specs.Pools.{pool_token0, pool_token1}
use Rattle.amm_model.specs.declared.pair.PairRecord.{PairRecord}
use Rattle.amm_model.specs.declared.pair.MintReceipt.{MintReceipt}
use Rattle.amm_model.specs.declared.pair.BurnReceipt.{BurnReceipt}
use Rattle.amm_model.specs.declared.pair.SwapReceipt.{SwapReceipt}
use Rattle.amm_model.specs.declared.pair.SkimReceipt.{SkimReceipt}
use Rattle.amm_model.specs.Ledger.{Ledger, Pairs, pair_of, with_pair}
use Rattle.amm_model.specs.Outcome.{Made}
use Rattle.amm_model.specs.Pools.{Terms}
use Rattle.amm_model.specs.Operations.{sync, skim, lend, open_loan, give_back, swap, mint, burn, locked_pair, unlocked_pair}
use Rattle.amm_model.specs.Laws.{ZeroKept}
use Rattle.amm_model.specs.Sound.{ProductKept}
use Rattle.amm_model.specs.Later.{Later}
use Rattle.amm_model.proofs.Guards.{given, same_answer}
use Rattle.amm_model.proofs.Names.{name_cases, some_there, one_value}
use Rattle.amm_model.proofs.Soundness.{OnlyAt, share_not_token}
use Rattle.amm_model.proofs.Keeping.{free_not_locked}
use Rattle.amm_model.proofs.Laters.{Kept}
use Rattle.amm_state.proofs.BookLemmas.{set_pair-back}
use Rattle.amm_pair.proofs.Operations.{sync_kept, skim_kept}
use Rattle.amm_pair.proofs.Shares.{mint_kept}
use Rattle.amm_pair.proofs.Burning.{burn_kept}
use Rattle.amm_pair.proofs.Lending.{Lent, lend_lent, lent_there, lent_only, lend_sound, Returned, give_back_returned, returned_there, returned_only, give_back_sound, swap_kept}

pub later_sync : (ledger : Ledger) (pool : List ℕ) (made : Made PairRecord) → sync ledger pool ≡ Ok made → Later ledger made.ledger
later_sync ledger pool made is = (sync_kept ledger pool made is).later

pub later_skim : (ledger : Ledger) (pool : List ℕ) (to : Holder) (made : Made SkimReceipt) → pool_token0 pool ≢ pool_token1 pool → skim ledger pool to ≡ Ok made → Later ledger made.ledger
later_skim ledger pool to made apart is = (skim_kept ledger pool to made is apart).later

pub later_mint : (ledger : Ledger) (pool : List ℕ) (to : Holder) (made : Made MintReceipt) → mint ledger pool to ≡ Ok made → Later ledger made.ledger
later_mint ledger pool to made is = (mint_kept ledger pool to made is).later

pub later_burn : (ledger : Ledger) (pool : List ℕ) (to : Holder) (made : Made BurnReceipt) → pool_token0 pool ≢ pool_token1 pool → burn ledger pool to ≡ Ok made → Later ledger made.ledger
later_burn ledger pool to made apart is = (burn_kept ledger pool to made is apart).later

pub later_swap : (ledger : Ledger) (pool : List ℕ) (out0 out1 : ℕ) (to : Holder) (made : Made SwapReceipt) → swap ledger pool out0 out1 to ≡ Ok made → Later ledger made.ledger
later_swap ledger pool out0 out1 to made is = (swap_kept ledger pool out0 out1 to made is).later

-- ---- a loan, what runs in it, and its return

module _ (ledger : Ledger) (pool : List ℕ) (out0 out1 : ℕ) (to : Holder) (lent : Made PairRecord) (lends : lend ledger pool out0 out1 to ≡ Ok lent)
    (back : Ledger) (within : Later lent.ledger back) (made : Made SwapReceipt) (returns : give_back back pool out0 out1 ≡ Ok made) where
  l : Lent ledger pool out0 out1 lent
  l = lend_lent ledger pool out0 out1 to lent lends

  r : Returned back pool made.ledger
  r = give_back_returned back pool out0 out1 made returns

  out : OnlyAt pool ledger lent.ledger
  out = lent_only ledger pool out0 out1 lent l

  home : OnlyAt pool back made.ledger
  home = returned_only back pool made.ledger r

  freed : pair_of made.ledger.pairs pool ≡ Some (unlocked_pair r.now)
  freed = returned_there back pool made.ledger r

  pub later_loan : Later ledger made.ledger
  later_loan = record {
    time = home.time ∙ within.time ∙ out.time;
    fee_to = home.fee_to ∙ within.fee_to ∙ out.fee_to;
    setter = home.setter ∙ within.setter ∙ out.setter;
    tokens = home.tokens ∙ within.tokens ∙ out.tokens;
    quotes = home.quotes ∙ within.quotes ∙ out.quotes;
    observations = home.observations ∙ within.observations ∙ out.observations;
    stays = λ other is. elim (name_cases other pool) [
      | inl e ↦ some_there (pair_of made.ledger.pairs other) (unlocked_pair r.now) (ap (pair_of made.ledger.pairs) e ∙ freed)
      | inr apart ↦ subst (λ (o : Option PairRecord). IsSome o) (sym (home.pairs other apart)) (within.stays other (subst (λ (o : Option PairRecord). IsSome o) (sym (out.pairs other apart)) is))
    ];
    locked = λ other pair is shut. elim (name_cases other pool) [
      | inl e ↦ absurd (free_not_locked l.was pair l.found.free (one_value (pair_of ledger.pairs pool) l.was pair l.found.there (ap (pair_of ledger.pairs) (sym e) ∙ is)) shut)
      | inr apart ↦ home.pairs other apart ∙ within.locked other pair (out.pairs other apart ∙ is) shut
    ];
    no_other = λ other pair is shut. elim (name_cases other pool) [
      | inl e ↦ absurd (free_not_locked (unlocked_pair r.now) pair refl (one_value (pair_of made.ledger.pairs pool) (unlocked_pair r.now) pair freed (ap (pair_of made.ledger.pairs) (sym e) ∙ is)) shut)
      | inr apart ↦ sym (out.pairs other apart) ∙ within.no_other other pair (sym (home.pairs other apart) ∙ is) shut
    ];
    totals = λ token. home.totals (assets.Token token) (share_not_token pool token) ∙ within.totals token ∙ out.totals (assets.Token token) (share_not_token pool token);
    sound = λ sound. give_back_sound back pool out0 out1 made (within.sound (lend_sound ledger pool out0 out1 to lent sound lends)) returns;
  }

  -- what the zero holder has did not fall
  pub loan_kept : ZeroKept lent.ledger back → Kept ledger made.ledger
  loan_kept zero = record { later = later_loan; zero = λ q. omega (arith, out.zero q, zero q, home.zero q) }

  -- whatever ran in it, the loan did not lower the product
  pub loan_product : ProductKept back made.ledger pool → ProductKept ledger made.ledger pool
  loan_product kept was now at_old at_new =
      let e : l.was ≡ was = one_value (pair_of ledger.pairs pool) l.was was l.found.there at_old in
      let still : pair_of back.pairs pool ≡ Some (locked_pair l.was) = within.locked pool (locked_pair l.was) (lent_there ledger pool out0 out1 lent l) refl in
      subst (λ (p : PairRecord). p.r0 * p.r1 ≤ now.r0 * now.r1) e (kept (locked_pair l.was) now still at_new)

-- with the record set back, a return has changed nothing
pub give_back_undone : (back : Ledger) (pool : List ℕ) (out0 out1 : ℕ) (made : Made SwapReceipt) (pair : PairRecord) → pair_of back.pairs pool ≡ Some pair → give_back back pool out0 out1 ≡ Ok made
    → with_pair made.ledger pool pair ≡ back
give_back_undone back pool out0 out1 made pair there returns =
    let r = give_back_returned back pool out0 out1 made returns in
    ap (λ (k : Ledger). with_pair k pool pair) r.after ∙ ap (λ (ps : Pairs). record back { pairs = ps }) (set_pair-back back.pairs pool pair (unlocked_pair r.now) there)

-- a loan with its terms is a loan
pub record Opened (ledger : Ledger) (pool : List ℕ) (out0 out1 : ℕ) (to : Holder) (made : Made Terms) : Type 0 where
  pub lent : Made PairRecord
  pub lends : lend ledger pool out0 out1 to ≡ Ok lent
  pub left : made.ledger ≡ lent.ledger
  pub terms : made.answer ≡ record { pool = pool; out0 = out0; out1 = out1; pair = lent.answer }

pub open_loan_lends : (ledger : Ledger) (pool : List ℕ) (out0 out1 : ℕ) (to : Holder) (made : Made Terms) → open_loan ledger pool out0 out1 to ≡ Ok made → Opened ledger pool out0 out1 to made
open_loan_lends ledger pool out0 out1 to made is =
    let first = given (lend ledger pool out0 out1 to) _ made is in
    let e = same_answer (record { ledger = first.value.ledger; answer = record { pool = pool; out0 = out0; out1 = out1; pair = first.value.answer } }) made first.after in
    record {
      lent = first.value;
      lends = first.was;
      left = ap (λ (m : Made Terms). m.ledger) (sym e);
      terms = ap (λ (m : Made Terms). m.answer) (sym e);
    }
