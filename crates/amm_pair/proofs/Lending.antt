-- What an accepted loan, its return and a swap leave.
use Rattle.std.proofs.Common.{◌≡◌, ◌≤◌, ◌-◌, ◌*◌, ℕ, nat_le, ◌==◌, ◌&&◌, ◌||◌, not, List, Option, Some, None, Ok, refl, sym, ap, ◌∙◌, subst}
use Rattle.std.proofs.lemmas.Bool.{not-false}
use Rattle.amm_names.specs.declared.holder.Holder.{Holder}
use Rattle.amm_names.specs.declared.holder.Asset.TheVariants as assets
use Rattle.amm_model.specs.declared.pair.PairRecord.{PairRecord}
use Rattle.amm_model.specs.declared.pair.SwapReceipt.{SwapReceipt}
use Rattle.amm_model.specs.declared.fault.Refusal.TheVariants as code
use Rattle.amm_names.specs.Pools.{pool_fee}
use Rattle.amm_model.specs.Ledger.{Ledger, Pairs, pair_of, set_pair, with_pair}
use Rattle.amm_model.specs.Outcome.{Made}
use Rattle.amm_model.specs.Pools.{held0, held1, supply, Terms}
use Rattle.amm_model.specs.Operations.{if_there, free_pair, renewed_record, updated_record, locked_pair, unlocked_pair, is_token_of, send_both, lending_pair, lend, open_loan, came_in, keeps_product, settle_swap, give_back, swap}
use Rattle.amm_model.specs.Sound.{IsSoundPair, IsSound, IsOpen, ProductKept}
use Rattle.amm_pool.proofs.Products.{product_kept}
use Rattle.amm_model.proofs.Guards.{Given, given, not_refused, same_answer}
use Rattle.amm_model.proofs.Names.{some_there, one_value, pair_of-set_here}
use Rattle.amm_model.proofs.Soundness.{OnlyAt, only_at_then, same_only, with_pair_only, sound_but_at}
use Rattle.amm_model.proofs.Laters.{Kept, kept_at}
use Rattle.amm_pair.proofs.Operations.{Found, free_found, Renewed, updated_renewed, renewed_small, backed_grown, settled_sound, BothSent, both_sent_each, both_only, both_pairs, sent_sound}

-- what a loan leaves: the pair was free, its record is locked, and the outputs are gone
pub record Lent (old : Ledger) (pool : List ℕ) (out0 out1 : ℕ) (made : Made PairRecord) : Type 0 where
  pub was : PairRecord
  pub found : Found old pool was
  pub sent : BothSent pool out0 out1 (with_pair old pool (locked_pair was)) made.ledger
  pub keeps : made.answer ≡ locked_pair was

-- a pair that may lend is there and free
pub lendable_found : (ledger : Ledger) (pool : List ℕ) (out0 out1 : ℕ) (to : Holder) (pair : PairRecord) → lending_pair ledger pool out0 out1 to ≡ Ok pair → Found ledger pool pair
unfolding lending_pair
lendable_found ledger pool out0 out1 to pair is =
    let first = given (free_pair ledger pool) _ pair is in
    let was : PairRecord = first.value in
    let asked = not_refused (out0 == 0 && out1 == 0) code.InsufficientOutputAmount _ pair first.after in
    let enough = not_refused (nat_le was.r0 out0 || nat_le was.r1 out1) code.InsufficientLiquidity _ pair asked.1 in
    let allowed = not_refused (is_token_of pool to) code.InvalidTo _ pair enough.1 in
    subst (Found ledger pool) (same_answer was pair allowed.1) (free_found ledger pool was first.was)

pub lend_lent : (ledger : Ledger) (pool : List ℕ) (out0 out1 : ℕ) (to : Holder) (made : Made PairRecord) → lend ledger pool out0 out1 to ≡ Ok made → Lent ledger pool out0 out1 made
unfolding lend
lend_lent ledger pool out0 out1 to made is =
    let first = given (lending_pair ledger pool out0 out1 to) _ made is in
    let was : PairRecord = first.value in
    let start : Ledger = with_pair ledger pool (locked_pair was) in
    let second = given (send_both start pool out0 out1 to) _ made first.after in
    let e = same_answer (record { ledger = second.value.ledger; answer = locked_pair was }) made second.after in
    record {
      was = was;
      found = lendable_found ledger pool out0 out1 to was first.was;
      sent = subst (λ (m : Made PairRecord). BothSent pool out0 out1 start m.ledger) e (both_sent_each start pool out0 out1 to second.value second.was);
      keeps = ap (λ (m : Made PairRecord). m.answer) (sym e);
    }

-- a pair that is locked stays sound
locked_sound : (ledger : Ledger) (pool : List ℕ) (was : PairRecord) → IsSound ledger → pair_of ledger.pairs pool ≡ Some was → IsSound (with_pair ledger pool (locked_pair was))
locked_sound ledger pool was sound at =
    let there = some_there (pair_of ledger.pairs pool) was at in
    let written : pair_of (set_pair ledger.pairs pool (locked_pair was)) pool ≡ Some (locked_pair was) = pair_of-set_here ledger.pairs pool (locked_pair was) there in
    let before = sound.pairs pool was at in
    let small = before.small in
    let backed = before.backed in
    let this : IsSoundPair (with_pair ledger pool (locked_pair was)) pool (locked_pair was) = record {
      listed = before.listed;
      small = record { r0 = small.r0; r1 = small.r1; last = small.last; acc0 = small.acc0; acc1 = small.acc1 };
      covered = λ free. cc;
      backed = record { backed = backed.backed; kept = backed.kept };
      kept = before.kept;
    } in
    sound_but_at pool ledger (with_pair ledger pool (locked_pair was)) (locked_pair was) sound (with_pair_only ledger pool (locked_pair was) there) written (sound.totals (assets.Share pool)) this

-- the record of the pool while it lends
pub lent_there : (old : Ledger) (pool : List ℕ) (out0 out1 : ℕ) (made : Made PairRecord) (l : Lent old pool out0 out1 made) → pair_of made.ledger.pairs pool ≡ Some (locked_pair l.was)
lent_there old pool out0 out1 made l = ap (λ (ps : Pairs). pair_of ps pool) (both_pairs pool out0 out1 (with_pair old pool (locked_pair l.was)) made.ledger l.sent) ∙ pair_of-set_here old.pairs pool (locked_pair l.was) (some_there (pair_of old.pairs pool) l.was l.found.there)

-- and the other pools as they were
pub lent_only : (old : Ledger) (pool : List ℕ) (out0 out1 : ℕ) (made : Made PairRecord) → Lent old pool out0 out1 made → OnlyAt pool old made.ledger
lent_only old pool out0 out1 made l =
    let start : Ledger = with_pair old pool (locked_pair l.was) in
    only_at_then pool old start made.ledger (with_pair_only old pool (locked_pair l.was) (some_there (pair_of old.pairs pool) l.was l.found.there)) (both_only pool out0 out1 start made.ledger l.sent)

pub lend_sound : (ledger : Ledger) (pool : List ℕ) (out0 out1 : ℕ) (to : Holder) (made : Made PairRecord) → IsSound ledger → lend ledger pool out0 out1 to ≡ Ok made → IsSound made.ledger
lend_sound ledger pool out0 out1 to made sound is =
    let l = lend_lent ledger pool out0 out1 to made is in
    let start = locked_sound ledger pool l.was sound l.found.there in
    sent_sound pool out0 out1 (with_pair ledger pool (locked_pair l.was)) made.ledger (locked_pair l.was) start
    (pair_of-set_here ledger.pairs pool (locked_pair l.was) (some_there (pair_of ledger.pairs pool) l.was l.found.there)) l.sent (λ free. cc)

pub lend_open : (ledger : Ledger) (pool : List ℕ) (out0 out1 : ℕ) (to : Holder) (made : Made PairRecord) → lend ledger pool out0 out1 to ≡ Ok made
    → IsOpen made.ledger (record { pool = pool; out0 = out0; out1 = out1; pair = made.answer })
lend_open ledger pool out0 out1 to made is =
    let l = lend_lent ledger pool out0 out1 to made is in
    record { there = lent_there ledger pool out0 out1 made l ∙ ap Some (sym l.keeps); locked = ap (λ (p : PairRecord). p.locked) l.keeps }

-- what a return leaves: the pair is free, its reserves are what the pool has, and the product did
-- not fall
pub record Returned (old : Ledger) (pool : List ℕ) (made : Ledger) : Type 0 where
  pub was : PairRecord
  pub there : pair_of old.pairs pool ≡ Some was
  pub now : PairRecord
  pub renewed : Renewed old pool was now
  pub after : made ≡ with_pair old pool (unlocked_pair now)
  pub product : was.r0 * was.r1 ≤ held0 old pool * held1 old pool

-- the record of the pool then, and the other pools as they were
pub returned_there : (old : Ledger) (pool : List ℕ) (made : Ledger) (r : Returned old pool made) → pair_of made.pairs pool ≡ Some (unlocked_pair r.now)
returned_there old pool made r = ap (λ (k : Ledger). pair_of k.pairs pool) r.after ∙ pair_of-set_here old.pairs pool (unlocked_pair r.now) (some_there (pair_of old.pairs pool) r.was r.there)

pub returned_only : (old : Ledger) (pool : List ℕ) (made : Ledger) → Returned old pool made → OnlyAt pool old made
returned_only old pool made r = subst (OnlyAt pool old) (sym r.after) (with_pair_only old pool (unlocked_pair r.now) (some_there (pair_of old.pairs pool) r.was r.there))

was_there : (o : Option PairRecord) (pair : PairRecord) → if_there o ≡ Ok pair → o ≡ Some pair
was_there None pair is = cc
was_there (Some p) pair is = ap Some (same_answer p pair is)

pub give_back_returned : (ledger : Ledger) (pool : List ℕ) (out0 out1 : ℕ) (made : Made SwapReceipt) → give_back ledger pool out0 out1 ≡ Ok made → Returned ledger pool made.ledger
unfolding give_back settle_swap
give_back_returned ledger pool out0 out1 made is =
    let first = given (if_there (pair_of ledger.pairs pool)) _ made is in
    let was : PairRecord = first.value in
    let paid : SwapReceipt = came_in ledger pool was out0 out1 in
    let some = not_refused (paid.in0 == 0 && paid.in1 == 0) code.InsufficientInputAmount _ made first.after in
    let fair = not_refused (not (keeps_product ledger pool was paid)) code.K _ made some.1 in
    let second = given (updated_record ledger pool was) _ made fair.1 in
    let e = same_answer (record { ledger = with_pair ledger pool (unlocked_pair second.value); answer = paid }) made second.after in
    record {
      was = was;
      there = was_there (pair_of ledger.pairs pool) was first.was;
      now = second.value;
      renewed = updated_renewed ledger pool was second.value second.was;
      after = ap (λ (m : Made SwapReceipt). m.ledger) (sym e);
      product = product_kept (pool_fee pool) was.r0 was.r1 (held0 ledger pool) (held1 ledger pool) paid.in0 paid.in1 (not-false (keeps_product ledger pool was paid) fair.0);
    }

pub give_back_sound : (ledger : Ledger) (pool : List ℕ) (out0 out1 : ℕ) (made : Made SwapReceipt) → IsSound ledger → give_back ledger pool out0 out1 ≡ Ok made → IsSound made.ledger
give_back_sound ledger pool out0 out1 made sound is =
    let back = give_back_returned ledger pool out0 out1 made is in
    let before = sound.pairs pool back.was back.there in
    let new : PairRecord = unlocked_pair (renewed_record back.was ledger.time (held0 ledger pool) (held1 ledger pool)) in
    let small = renewed_small back.was ledger.time (held0 ledger pool) (held1 ledger pool) before.small back.renewed.small0 back.renewed.small1 in
    let settle_swap : IsSound (with_pair ledger pool new) =
    settled_sound pool ledger ledger back.was new sound back.there (same_only pool ledger) back.there (sound.totals (assets.Share pool))
    (record { r0 = small.r0; r1 = small.r1; last = small.last; acc0 = small.acc0; acc1 = small.acc1 }) refl refl
    (backed_grown (supply ledger pool) back.was.r0 back.was.r1 (held0 ledger pool) (held1 ledger pool) back.was.k_last back.product before.backed) before.kept in
    subst IsSound (sym (back.after ∙ ap (λ (p : PairRecord). with_pair ledger pool (unlocked_pair p)) back.renewed.is)) settle_swap

-- the product of the reserves against what it was before the return
pub give_back_product : (ledger : Ledger) (pool : List ℕ) (out0 out1 : ℕ) (made : Made SwapReceipt) → give_back ledger pool out0 out1 ≡ Ok made → ProductKept ledger made.ledger pool
give_back_product ledger pool out0 out1 made is was now at_old at_new =
    let back = give_back_returned ledger pool out0 out1 made is in
    let new : PairRecord = unlocked_pair (renewed_record back.was ledger.time (held0 ledger pool) (held1 ledger pool)) in
    let written : pair_of made.ledger.pairs pool ≡ Some new = returned_there ledger pool made.ledger back ∙ ap (λ (p : PairRecord). Some (unlocked_pair p)) back.renewed.is in
    let e : back.was ≡ was = one_value (pair_of ledger.pairs pool) back.was was back.there at_old in
    let f : new ≡ now = one_value (pair_of made.ledger.pairs pool) new now written at_new in
    subst (λ (p : PairRecord). p.r0 * p.r1 ≤ now.r0 * now.r1) e (subst (λ (p : PairRecord). back.was.r0 * back.was.r1 ≤ p.r0 * p.r1) f back.product)

-- a swap is a loan that is returned at once
pub swap_sound : (ledger : Ledger) (pool : List ℕ) (out0 out1 : ℕ) (to : Holder) (made : Made SwapReceipt) → IsSound ledger → swap ledger pool out0 out1 to ≡ Ok made
    → IsSound made.ledger
unfolding swap
swap_sound ledger pool out0 out1 to made sound is =
    let lent = given (lend ledger pool out0 out1 to) _ made is in
    give_back_sound lent.value.ledger pool out0 out1 made (lend_sound ledger pool out0 out1 to lent.value sound lent.was) lent.after

pub swap_product : (ledger : Ledger) (pool : List ℕ) (out0 out1 : ℕ) (to : Holder) (made : Made SwapReceipt) → swap ledger pool out0 out1 to ≡ Ok made
    → ProductKept ledger made.ledger pool
unfolding swap
swap_product ledger pool out0 out1 to made is was now at_old at_new =
    let lent = given (lend ledger pool out0 out1 to) _ made is in
    let l = lend_lent ledger pool out0 out1 to lent.value lent.was in
    let e : l.was ≡ was = one_value (pair_of ledger.pairs pool) l.was was l.found.there at_old in
    let kept = give_back_product lent.value.ledger pool out0 out1 made lent.after (locked_pair l.was) now (lent_there ledger pool out0 out1 lent.value l) at_new in
    subst (λ (p : PairRecord). p.r0 * p.r1 ≤ now.r0 * now.r1) e kept

-- a loan with its terms is a loan
pub open_loan_opened : (ledger : Ledger) (pool : List ℕ) (out0 out1 : ℕ) (to : Holder) (made : Made Terms) → IsSound ledger → open_loan ledger pool out0 out1 to ≡ Ok made
    → IsSound made.ledger × IsOpen made.ledger made.answer
open_loan_opened ledger pool out0 out1 to made sound is =
    let lent = given (lend ledger pool out0 out1 to) _ made is in
    let e = same_answer (record { ledger = lent.value.ledger; answer = record { pool = pool; out0 = out0; out1 = out1; pair = lent.value.answer } }) made lent.after in
    subst (λ (m : Made Terms). IsSound m.ledger × IsOpen m.ledger m.answer) e
    (lend_sound ledger pool out0 out1 to lent.value sound lent.was, lend_open ledger pool out0 out1 to lent.value lent.was)

-- ---- what a swap keeps

module _ (ledger : Ledger) (pool : List ℕ) (out0 out1 : ℕ) (to : Holder) (made : Made SwapReceipt) (is : swap ledger pool out0 out1 to ≡ Ok made) where
  both : Given (lend ledger pool out0 out1 to) (λ lent. give_back lent.ledger pool out0 out1) made
  unfolding swap
  both = given (lend ledger pool out0 out1 to) (λ lent. give_back lent.ledger pool out0 out1) made is

  l : Lent ledger pool out0 out1 both.value
  l = lend_lent ledger pool out0 out1 to both.value both.was

  r : Returned both.value.ledger pool made.ledger
  r = give_back_returned both.value.ledger pool out0 out1 made both.after

  swap_only : OnlyAt pool ledger made.ledger
  swap_only = only_at_then pool ledger both.value.ledger made.ledger (lent_only ledger pool out0 out1 both.value l) (returned_only both.value.ledger pool made.ledger r)

  pub swap_kept : Kept ledger made.ledger
  swap_kept =
      kept_at pool ledger made.ledger l.was (unlocked_pair r.now) swap_only l.found.there l.found.free (returned_there both.value.ledger pool made.ledger r) refl
      (λ sound. swap_sound ledger pool out0 out1 to made sound is)
