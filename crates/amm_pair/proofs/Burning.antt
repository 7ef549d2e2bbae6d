-- What an accepted burn leaves.
use Rattle.std.proofs.Common.{◌≡◌, ◌≢◌, ◌≤◌, ◌<◌, ◌+◌, ◌-◌, ◌*◌, ◌==◌, ◌||◌, ℕ, List, Ok, refl, sym, ap, ◌∙◌, Some, inl, inr, subst, arith}
use Rattle.std.proofs.Math.Nat.{le_trans, mul-le-mul, mul-le-mul_right, div-mul-le_self}
use Rattle.amm_names.specs.declared.holder.Holder.{Holder}
use Rattle.amm_names.specs.declared.holder.Holder.TheVariants as holders
use Rattle.amm_names.specs.declared.holder.Asset.TheVariants as assets
use Rattle.amm_model.specs.declared.pair.PairRecord.{PairRecord}
use Rattle.amm_model.specs.declared.pair.BurnReceipt.{BurnReceipt}
use Rattle.amm_model.specs.declared.fault.Refusal.TheVariants as code
use Rattle.amm_names.specs.Pools.{pool_token0, pool_token1}
use Rattle.amm_model.specs.Ledger.{Ledger, Pairs, pair_of, with_pair}
use Rattle.amm_model.specs.Outcome.{Made}
use Rattle.amm_model.specs.Postings.{retire}
use Rattle.amm_model.specs.Pools.{asset0, asset1, held0, held1, supply}
use Rattle.amm_model.specs.Operations.{free_pair, updated_record, is_nobody, fee_due, with_fee, with_product, own_shares, burn_amounts, send_both, burn, PerShareKept}
use Rattle.amm_model.specs.Sound.{IsCovered, IsSoundPair, IsSound}
use Rattle.amm_pool.proofs.Products.{burned_product, covered_scaled}
use Rattle.amm_model.proofs.Guards.{given, not_refused, same_answer}
use Rattle.amm_model.proofs.Balances.{Taken}
use Rattle.amm_model.proofs.Transfers.{retire_taken}
use Rattle.amm_model.proofs.Soundness.{OnlyAt, only_at_then, taken_only, share_not_token, tokens_apart}
use Rattle.amm_model.proofs.Laters.{Kept}
use Rattle.amm_pair.proofs.Operations.{Found, free_found, Renewed, updated_renewed, IsKept, BothSent, both_sent_each, both_only, both_pairs, both_totals}
use Rattle.amm_pair.proofs.Ending.{Ended, ended_kept, ended_sound, ended_per_share}
use Rattle.amm_pair.proofs.Shares.{Grown, fee_grown, grown_only, fee_due_within, no_fee_due, not_zero}

-- a burn that pays out: its shares end, and then each part is sent
pub record PaidOut (pool : List ℕ) (shares : ℕ) (parts : BurnReceipt) (old new : Ledger) : Type 0 where
  pub fewer : Ledger
  pub taken : Taken (assets.Share pool) (holders.Pool pool) shares old fewer
  pub sent : BothSent pool parts.amount0 parts.amount1 fewer new

parts_fit : (l : Ledger) (pool : List ℕ) (s fee : ℕ) → ((burn_amounts l pool s fee).amount0 * s ≤ own_shares l pool * held0 l pool) × ((burn_amounts l pool s fee).amount1 * s ≤ own_shares l pool * held1 l pool)
unfolding burn_amounts
parts_fit l pool s fee = (div-mul-le_self (own_shares l pool * held0 l pool) s, div-mul-le_self (own_shares l pool * held1 l pool) s)

parts_fee : (l : Ledger) (pool : List ℕ) (s fee : ℕ) → (burn_amounts l pool s fee).fee_shares ≡ fee
unfolding burn_amounts
parts_fee l pool s fee = refl

-- what stays against what there was, where at most the parts went out
burned_at_most : (s own r0 r1 b0 b1 m0 m1 h0 h1 k : ℕ) → r0 ≤ b0 → r1 ≤ b1 → m0 * s ≤ own * b0 → m1 * s ≤ own * b1 → m0 ≤ b0 → m1 ≤ b1 → b0 ≤ h0 + m0 → b1 ≤ h1 + m1 → k + own ≡ s
    → (r0 * r1) * (k * k) ≤ (h0 * h1) * (s * s)
burned_at_most s own r0 r1 b0 b1 m0 m1 h0 h1 k over0 over1 part0 part1 fit0 fit1 stay0 stay1 left =
    let product : (r0 * r1) * (k * k) ≤ ((b0 - m0) * (b1 - m1)) * (s * s) =
    burned_product s own r0 r1 b0 b1 m0 m1 (b0 - m0) (b1 - m1) k over0 over1 part0 part1 (omega arith) (omega arith) left in
    let low0 : b0 - m0 ≤ h0 = omega arith in
    let low1 : b1 - m1 ≤ h1 = omega arith in
    let both : (b0 - m0) * (b1 - m1) ≤ h0 * h1 = mul-le-mul low0 low1 in
    let wide : ((b0 - m0) * (b1 - m1)) * (s * s) ≤ (h0 * h1) * (s * s) = mul-le-mul_right (s * s) both in
    le_trans product wide

-- what a burn leaves
pub record Burned (old : Ledger) (pool : List ℕ) (made : Ledger) (receipt : BurnReceipt) : Type 0 where
  pub was : PairRecord
  pub found : Found old pool was
  pub some : supply old pool + fee_due old pool was ≢ 0
  pub fee : receipt.fee_shares ≡ fee_due old pool was
  pub mid : Ledger
  pub paid : PaidOut pool (own_shares old pool) (burn_amounts old pool (supply old pool + fee_due old pool was) (fee_due old pool was)) (with_fee old pool (fee_due old pool was)) mid
  pub now : PairRecord
  pub renewed : Renewed mid pool was now
  pub after : made ≡ with_pair mid pool (with_product (is_nobody old.fee_to) now)

pub burn_burned : (l : Ledger) (pool : List ℕ) (to : Holder) (made : Made BurnReceipt) → burn l pool to ≡ Ok made → Burned l pool made.ledger made.answer
unfolding burn
burn_burned l pool to made is =
    let first = given (free_pair l pool) _ made is in
    let was : PairRecord = first.value in
    let fee : ℕ = fee_due l pool was in
    let s : ℕ = supply l pool + fee in
    let parts : BurnReceipt = burn_amounts l pool s fee in
    let some = not_refused (s == 0) code.InsufficientLiquidityBurned _ made first.after in
    let pays = not_refused (parts.amount0 == 0 || parts.amount1 == 0) code.InsufficientLiquidityBurned _ made some.1 in
    let ended = given (retire (with_fee l pool fee) (assets.Share pool) (holders.Pool pool) (own_shares l pool)) _ made pays.1 in
    let out = given (send_both ended.value.ledger pool parts.amount0 parts.amount1 to) _ made ended.after in
    let second = given (updated_record out.value.ledger pool was) _ made out.after in
    let e = same_answer (record { ledger = with_pair out.value.ledger pool (with_product (is_nobody l.fee_to) second.value); answer = parts }) made second.after in
    record {
      was = was;
      found = free_found l pool was first.was;
      some = not_zero s some.0;
      fee = ap (λ (m : Made BurnReceipt). m.answer.fee_shares) (sym e) ∙ parts_fee l pool s fee;
      mid = out.value.ledger;
      paid = record {
        fewer = ended.value.ledger;
        taken = (retire_taken (with_fee l pool fee) (assets.Share pool) (holders.Pool pool) (own_shares l pool) ended.value ended.was).1;
        sent = both_sent_each ended.value.ledger pool parts.amount0 parts.amount1 to out.value out.was;
      };
      now = second.value;
      renewed = updated_renewed out.value.ledger pool was second.value second.was;
      after = ap (λ (m : Made BurnReceipt). m.ledger) (sym e);
    }

-- what a burn leaves, whatever the ledger
module _ (l : Ledger) (pool : List ℕ) (to : Holder) (made : Made BurnReceipt) (is : burn l pool to ≡ Ok made) where
  m : Burned l pool made.ledger made.answer
  m = burn_burned l pool to made is

  abbrev fee : ℕ
  fee = fee_due l pool m.was

  abbrev s : ℕ
  s = supply l pool + fee

  abbrev parts : BurnReceipt
  parts = burn_amounts l pool s fee

  abbrev given_fee : Ledger
  given_fee = with_fee l pool fee

  grown : Grown pool fee l given_fee
  grown = fee_grown l pool fee

  only : OnlyAt pool l m.mid
  only = only_at_then pool l given_fee m.mid (grown_only pool fee l given_fee grown)
      (only_at_then pool given_fee m.paid.fewer m.mid (taken_only pool (own_shares l pool) given_fee m.paid.fewer m.paid.taken)
      (both_only pool parts.amount0 parts.amount1 m.paid.fewer m.mid m.paid.sent))

  still : pair_of m.mid.pairs pool ≡ Some m.was
  still = ap (λ (ps : Pairs). pair_of ps pool) (both_pairs pool parts.amount0 parts.amount1 m.paid.fewer m.mid m.paid.sent ∙ m.paid.taken.rest.pairs ∙ grown.rest.pairs) ∙ m.found.there

  abbrev ending : Ended l pool made.ledger
  ending = record { was = m.was; found = m.found; mid = m.mid; only = only; still = still; now = m.now; renewed = m.renewed; after = m.after }

  module _ (apart : pool_token0 pool ≢ pool_token1 pool) (sound : IsSound l) where
    before : IsSoundPair l pool m.was
    before = sound.pairs pool m.was m.found.there

    covers : IsCovered l pool m.was
    covers = before.covered m.found.free

    left : supply m.mid pool + own_shares l pool ≡ s
    left = omega (arith, both_totals pool parts.amount0 parts.amount1 m.paid.fewer m.mid m.paid.sent (assets.Share pool), m.paid.taken.whole, grown.whole)

    start0 : held0 m.paid.fewer pool ≡ held0 l pool
    start0 = m.paid.taken.others (asset0 pool) (holders.Pool pool) (share_not_token pool (pool_token0 pool)) ∙ grown.others (asset0 pool) (holders.Pool pool) (share_not_token pool (pool_token0 pool))

    start1 : held1 m.paid.sent.half pool ≡ held1 l pool
    start1 = m.paid.sent.first.others (asset1 pool) (holders.Pool pool) (tokens_apart (pool_token1 pool) (pool_token0 pool) (λ e. apart (sym e)))
        ∙ m.paid.taken.others (asset1 pool) (holders.Pool pool) (share_not_token pool (pool_token1 pool)) ∙ grown.others (asset1 pool) (holders.Pool pool) (share_not_token pool (pool_token1 pool))

    end0 : held0 m.mid pool ≡ held0 m.paid.sent.half pool
    end0 = m.paid.sent.second.others (asset0 pool) (holders.Pool pool) (tokens_apart (pool_token0 pool) (pool_token1 pool) apart)

    product : (m.was.r0 * m.was.r1) * (supply m.mid pool * supply m.mid pool) ≤ (held0 m.mid pool * held1 m.mid pool) * (s * s)
    product =
        let fit = parts_fit l pool s fee in
        burned_at_most s (own_shares l pool) m.was.r0 m.was.r1 (held0 l pool) (held1 l pool) parts.amount0 parts.amount1 (held0 m.mid pool) (held1 m.mid pool) (supply m.mid pool)
        covers.first covers.second fit.0 fit.1 (omega (arith, m.paid.sent.first.funds, start0)) (omega (arith, m.paid.sent.second.funds, start1))
        (omega (arith, m.paid.sent.first.least, start0, end0)) (omega (arith, m.paid.sent.second.least, start1)) left

    positive : 0 < s
    positive = from_apart s m.some
      where
        from_apart : (k : ℕ) → k ≢ 0 → 0 < k
        from_apart k some = omega arith

    square : supply m.mid pool * supply m.mid pool ≤ held0 m.mid pool * held1 m.mid pool
    square = covered_scaled s (supply m.mid pool) (m.was.r0 * m.was.r1) (held0 m.mid pool * held1 m.mid pool) positive (fee_due_within l pool m.was before.backed) product

    kept : IsKept m.mid pool
    kept = elim before.kept [
      | inl none ↦ inl (omega (arith, left, no_fee_due l pool m.was none))
      | inr some ↦ inr (omega (arith, only.zero (assets.Share pool)))
    ]

    pub burn_sound : IsSound made.ledger
    burn_sound = ended_sound l pool made.ledger ending sound square kept

    pub burn_per_share : PerShareKept l made.ledger pool made.answer.fee_shares
    burn_per_share = subst (λ (k : ℕ). PerShareKept l made.ledger pool k) (sym m.fee) (ended_per_share l pool made.ledger ending sound square fee (λ pos. product))

  pub burn_kept : pool_token0 pool ≢ pool_token1 pool → Kept l made.ledger
  burn_kept apart = ended_kept l pool made.ledger ending (burn_sound apart)
