-- A swap in one go is the swap.
use Rattle.std.proofs.Common.{◌≡◌, ℕ, nat_lt, ◌==◌, ◌&&◌, not, Bool, true, false, List, Some, Result, Ok, Err, refl, sym, ap, ◌∙◌}
use Rattle.std.specs.Prelude.{if◌then◌else◌}
use Rattle.amm_names.specs.declared.holder.Holder.{Holder}
use Rattle.amm_names.specs.declared.holder.Holder.TheVariants as holders
use Rattle.amm_names.specs.declared.holder.Asset.{Asset}
use Rattle.amm_names.specs.Order.{same_holder}
use Rattle.amm_model.specs.declared.pair.PairRecord.{PairRecord}
use Rattle.amm_model.specs.declared.pair.SwapReceipt.{SwapReceipt}
use Rattle.amm_model.specs.declared.fault.Refusal.{Refusal}
use Rattle.amm_model.specs.declared.fault.Refusal.TheVariants as code
use Rattle.amm_model.specs.Outcome.{◌>>=◌, refuse_if, Made, Outcome, ledger_only}
use Rattle.amm_model.specs.Ledger.{Ledger, Pairs, balance, with_transfer, pair_of, set_pair, with_pair}
use Rattle.amm_model.specs.Postings.{transfer}
use Rattle.amm_model.specs.Pools.{asset0, asset1, held0, held1}
use Rattle.amm_model.specs.declared.limits.TheConstants.{RESERVE_LIMIT}
use Rattle.amm_model.specs.Operations.{renewed_record, updated_record_to, locked_pair, unlocked_pair, send_both, lending_pair, lend, came_in, keeps_product, settle_swap, give_back, swap}
use Rattle.amm_model.proofs.Names.{some_there, pair_of-set_here}
use Rattle.amm_state.proofs.BookLemmas.{set_pair-twice}
use Rattle.amm_pair.specs.Straight.{swap_straight}
use Rattle.amm_pair.proofs.Operations.{both_pairs, both_sent_each}
use Rattle.amm_pair.proofs.Lending.{lendable_found}

-- a transfer is the same whatever the pairs are
transfer_beside : (l : Ledger) (ps : Pairs) (a : Asset) (f t : Holder) (n : ℕ) → transfer (record l { pairs = ps }) a f t n ≡ (transfer l a f t n >>= λ m. ledger_only (record m.ledger { pairs = ps }))
unfolding transfer
transfer_beside l ps a f t n = by (nat_lt (balance l a f) n) (same_holder f t)
  where
    by : (b c : Bool) → ◌≡◌ {A = Outcome (Unit {0})} (if b then Err code.Funds else (if c then ledger_only (record l { pairs = ps }) else ledger_only (record (with_transfer l a f t n) { pairs = ps })))
        ((if b then Err code.Funds else (if c then ledger_only l else ledger_only (with_transfer l a f t n))) >>= λ m. ledger_only (record m.ledger { pairs = ps }))
    by true c = refl
    by false true = refl
    by false false = refl

-- tests that refuse the same, and ends that are the same
ends_same : (t1 t2 u0 u1 : Bool) (m n : PairRecord) (f g : PairRecord → Outcome SwapReceipt) → f m ≡ g n
    → (refuse_if t1 code.InsufficientInputAmount >>= λ _. (refuse_if t2 code.K >>= λ _. ((if u0 then Err code.Overflow else (if u1 then Err code.Overflow else Ok m)) >>= f)))
    ≡ (refuse_if t1 code.InsufficientInputAmount >>= λ _. (refuse_if t2 code.K >>= λ _. ((if u0 then Err code.Overflow else (if u1 then Err code.Overflow else Ok n)) >>= g)))
ends_same true t2 u0 u1 m n f g same = refl
ends_same false true u0 u1 m n f g same = refl
ends_same false false true u1 m n f g same = refl
ends_same false false false true m n f g same = refl
ends_same false false false false m n f g same = same

-- the return of a loan, where the record is known
pub give_back_is : (ledger : Ledger) (pool : List ℕ) (out0 out1 : ℕ) (pair : PairRecord) → pair_of ledger.pairs pool ≡ Some pair → give_back ledger pool out0 out1 ≡ settle_swap ledger pool pair out0 out1
unfolding give_back
give_back_is ledger pool out0 out1 pair there = rw there refl

module _ (ledger : Ledger) (pool : List ℕ) (out0 out1 : ℕ) (to : Holder) where
  -- the pairs while the pool lends
  abbrev during : PairRecord → Pairs
  during pair = set_pair ledger.pairs pool (locked_pair pair)

  -- the return of what was lent under the lock
  return_settled : (pair : PairRecord) → pair_of ledger.pairs pool ≡ Some pair → (sent : Ledger) → sent.pairs ≡ ledger.pairs
      → give_back (record sent { pairs = set_pair ledger.pairs pool (locked_pair pair) }) pool out0 out1 ≡ settle_swap sent pool pair out0 out1
  unfolding give_back settle_swap updated_record_to
  return_settled pair there sent still =
      let paid : SwapReceipt = came_in sent pool pair out0 out1 in
      let now : PairRecord = unlocked_pair (renewed_record pair sent.time (held0 sent pool) (held1 sent pool)) in
      give_back_is (record sent { pairs = during pair }) pool out0 out1 (locked_pair pair) (pair_of-set_here ledger.pairs pool (locked_pair pair) (some_there (pair_of ledger.pairs pool) pair there))
      ∙ (ends_same (paid.in0 == 0 && paid.in1 == 0) (not (keeps_product sent pool pair paid)) (nat_lt RESERVE_LIMIT (held0 sent pool)) (nat_lt RESERVE_LIMIT (held1 sent pool))
      (renewed_record (locked_pair pair) sent.time (held0 sent pool) (held1 sent pool)) (renewed_record pair sent.time (held0 sent pool) (held1 sent pool))
      (λ new. Ok (record { ledger = record sent { pairs = set_pair (set_pair ledger.pairs pool (locked_pair pair)) pool (unlocked_pair new) }; answer = paid }))
      (λ new. Ok (record { ledger = with_pair sent pool (unlocked_pair new); answer = paid }))
      (ap (λ (ps : Pairs). Ok (record { ledger = record sent { pairs = ps }; answer = paid })) (set_pair-twice ledger.pairs pool (locked_pair pair) now ∙ ap (λ (ps : Pairs). set_pair ps pool now) (sym still))))

  -- both outputs are sent the same whatever the pairs are
  both_beside : (l : Ledger) (ps : Pairs) → send_both (record l { pairs = ps }) pool out0 out1 to ≡ (send_both l pool out0 out1 to >>= λ m. ledger_only (record m.ledger { pairs = ps }))
  unfolding send_both
  both_beside l ps = rw (transfer_beside l ps (asset0 pool) (holders.Pool pool) to out0) (by (transfer l (asset0 pool) (holders.Pool pool) to out0))
    where
      by : (r : Outcome (Unit {0})) → ((r >>= λ m. ledger_only (record m.ledger { pairs = ps })) >>= λ first. transfer first.ledger (asset1 pool) (holders.Pool pool) to out1)
          ≡ ((r >>= λ first. transfer first.ledger (asset1 pool) (holders.Pool pool) to out1) >>= λ m. ledger_only (record m.ledger { pairs = ps }))
      by (Err why) = refl
      by (Ok first) = transfer_beside first.ledger ps (asset1 pool) (holders.Pool pool) to out1

  -- and leave the pairs as they are
  pub both_still : (l : Ledger) (sent : Made (Unit {0})) → send_both l pool out0 out1 to ≡ Ok sent → sent.ledger.pairs ≡ l.pairs
  both_still l sent is = both_pairs pool out0 out1 l sent.ledger (both_sent_each l pool out0 out1 to sent is)

  -- what follows the tests of a swap
  abbrev straight_by : PairRecord → Outcome SwapReceipt
  straight_by pair = send_both ledger pool out0 out1 to >>= λ sent. settle_swap sent.ledger pool pair out0 out1

  -- the loan that such a pair gives
  abbrev lent_by : PairRecord → Outcome PairRecord
  lent_by pair = send_both (with_pair ledger pool (locked_pair pair)) pool out0 out1 to >>= λ sent. Ok (record { ledger = sent.ledger; answer = locked_pair pair })

  paid_same : (pair : PairRecord) → pair_of ledger.pairs pool ≡ Some pair → (r : Outcome (Unit {0})) → send_both ledger pool out0 out1 to ≡ r
      → (lent_by pair >>= λ lent. give_back lent.ledger pool out0 out1) ≡ (r >>= λ sent. settle_swap sent.ledger pool pair out0 out1)
  paid_same pair there (Err why) is = rw (both_beside ledger (during pair), is) refl
  paid_same pair there (Ok sent) is = rw (both_beside ledger (during pair), is) (return_settled pair there sent.ledger (both_still ledger sent is))

  -- what follows the tests, once the pair was found
  by_found : (r : Result PairRecord Refusal) → lending_pair ledger pool out0 out1 to ≡ r → ((r >>= lent_by) >>= λ lent. give_back lent.ledger pool out0 out1) ≡ (r >>= straight_by)
  by_found (Err why) is = refl
  by_found (Ok pair) is = paid_same pair (lendable_found ledger pool out0 out1 to pair is).there _ refl

  pub swap_is_straight : swap ledger pool out0 out1 to ≡ swap_straight ledger pool out0 out1 to
  unfolding swap lend swap_straight
  swap_is_straight = by_found (lending_pair ledger pool out0 out1 to) refl
