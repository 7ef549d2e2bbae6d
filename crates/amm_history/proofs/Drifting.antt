-- What accepted steps do to every pair: each stays, and reads the same.
use Rattle.std.proofs.Common.{◌≡◌, ◌+◌, ◌-◌, ◌==◌, ◌&&◌, ◌||◌, not, ℕ, nat_lt, nat_le, Bool, true, false, List, Option, Some, None, IsSome, Ok, inl, inr, refl, sym, ap, ◌∙◌, subst}
use Rattle.std.specs.Prelude.{if◌then◌else◌, ok_or}
use Rattle.std.specs.Option.{is_some}
use Rattle.amm_names.specs.declared.holder.Holder.{Holder}
use Rattle.amm_names.specs.declared.holder.Holder.TheVariants as holders
use Rattle.amm_names.specs.declared.holder.Asset.{Asset}
use Rattle.amm_names.specs.declared.holder.Asset.TheVariants as assets
use Rattle.amm_names.specs.Pools.{pool_between}
use Rattle.amm_model.specs.declared.pair.PairRecord.{PairRecord}
use Rattle.amm_model.specs.declared.pair.MintReceipt.{MintReceipt}
use Rattle.amm_model.specs.declared.pair.BurnReceipt.{BurnReceipt}
use Rattle.amm_model.specs.declared.pair.SwapReceipt.{SwapReceipt}
use Rattle.amm_model.specs.declared.pair.SkimReceipt.{SkimReceipt}
use Rattle.amm_model.specs.declared.fault.Refusal.TheVariants as code
use Rattle.amm_model.specs.declared.limits.TheConstants.{RESERVE_LIMIT, FIRST_LOCKED}
use Rattle.amm_model.specs.Ledger.{Ledger, Pairs, pair_of, set_pair, with_pair, with_more, zero_pair, is_listed}
use Rattle.amm_model.specs.Outcome.{Made}
use Rattle.amm_model.specs.Pools.{asset0, asset1, held0, held1, supply}
use Rattle.amm_model.specs.Postings.{transfer, retire, add_pair}
use Rattle.amm_model.specs.Operations.{if_there, if_free, free_pair, renewed_record, updated_record_to, updated_record, sync, send_both, skim, excess, locked_pair, unlocked_pair, is_token_of, lending_pair, lend, came_in, keeps_product, settle_swap, give_back, swap, is_nobody, fee_due, with_fee, with_product, shares_for, with_shares, mint, own_shares, burn_amounts, burn}
use Rattle.amm_model.specs.Factory.{create}
use Rattle.amm_model.proofs.Guards.{given, past_refusal, not_refused, same_answer}
use Rattle.amm_model.proofs.Names.{name_cases, some_there, one_value, pair_of-set_here, pair_of-set_other}
use Rattle.amm_model.proofs.Balances.{Rest, rest_then, rest_same, added_added}
use Rattle.amm_model.proofs.Transfers.{transfer_sent, retire_taken}
use Rattle.amm_model.proofs.PairSound.{found_before, add_pair_made}
use Rattle.amm_history.proofs.Readings.{Drift, drift_same, drift_then, drift_renewed, drift_locked, drift_unlocked, drift_product}

-- the pool has a pair now, which reads at the time as the one that was
pub record Drifted (time : ℕ) (pairs : Pairs) (pool : List ℕ) (was : PairRecord) : Type 0 where
  pub now : PairRecord
  pub there : pair_of pairs pool ≡ Some now
  pub drift : Drift time was now

-- Time and observations are the same, and every pair that was there is there and reads the same.
pub record Drifts (old new : Ledger) : Type 0 where
  pub time : new.time ≡ old.time
  pub observations : new.observations ≡ old.observations
  pub pairs : (pool : List ℕ) (was : PairRecord) → pair_of old.pairs pool ≡ Some was → Drifted old.time new.pairs pool was

pub drifts_then : (a b c : Ledger) → Drifts a b → Drifts b c → Drifts a c
drifts_then a b c first second = record {
  time = second.time ∙ first.time;
  observations = second.observations ∙ first.observations;
  pairs = λ pool was is. (let one = first.pairs pool was is in
      let two = second.pairs pool one.now one.there in
      record { now = two.now; there = two.there; drift = drift_then a.time was one.now two.now one.drift (subst (λ (t : ℕ). Drift t one.now two.now) first.time two.drift) });
}

-- where every pair is as it was
pub drifts_pairs : (old new : Ledger) → new.time ≡ old.time → new.observations ≡ old.observations → new.pairs ≡ old.pairs → Drifts old new
drifts_pairs old new time observations same = record {
  time = time;
  observations = observations;
  pairs = λ pool was is. record { now = was; there = ap (λ (ps : Pairs). pair_of ps pool) same ∙ is; drift = drift_same old.time was };
}

pub drifts_same : (a : Ledger) → Drifts a a
drifts_same a = drifts_pairs a a refl refl refl

pub drifts_rest : (old new : Ledger) → Rest old new → Drifts old new
drifts_rest old new rest = drifts_pairs old new rest.time rest.observations rest.pairs

-- where one pool has another record, which reads the same
pub drifts_at : (pool : List ℕ) (old : Ledger) (was now : PairRecord) → pair_of old.pairs pool ≡ Some was → Drift old.time was now → Drifts old (with_pair old pool now)
drifts_at pool old was now there drift = record { time = refl; observations = refl; pairs = at }
  where
    is_there : IsSome (pair_of old.pairs pool)
    is_there = some_there (pair_of old.pairs pool) was there

    at : (other : List ℕ) (x : PairRecord) → pair_of old.pairs other ≡ Some x → Drifted old.time (set_pair old.pairs pool now) other x
    at other x is = elim (name_cases other pool) [
      | inl e ↦ record {
        now = now;
        there = ap (pair_of (set_pair old.pairs pool now)) e ∙ pair_of-set_here old.pairs pool now is_there;
        drift = subst (λ (p : PairRecord). Drift old.time p now) (one_value (pair_of old.pairs pool) was x there (ap (pair_of old.pairs) (sym e) ∙ is)) drift;
      }
      | inr apart ↦ record { now = x; there = pair_of-set_other old.pairs pool now other is_there apart ∙ is; drift = drift_same old.time x }
    ]

-- where balances changed first
drifts_after : (pool : List ℕ) (old mid : Ledger) (was now : PairRecord) → Rest old mid → pair_of old.pairs pool ≡ Some was → Drift mid.time was now → Drifts old (with_pair mid pool now)
drifts_after pool old mid was now rest there drift =
    drifts_then old mid (with_pair mid pool now) (drifts_rest old mid rest)
    (drifts_at pool mid was now (ap (λ (ps : Pairs). pair_of ps pool) rest.pairs ∙ there) drift)

-- ---- the pair that an operation begins with, and its update

free_there : (o : Option PairRecord) (pair : PairRecord) → if_free o ≡ Ok pair → o ≡ Some pair
free_there None pair is = cc
free_there (Some p) pair is = ap Some (same_answer p pair (past_refusal p.locked code.Locked (Ok p) pair is).1)

any_there : (o : Option PairRecord) (pair : PairRecord) → if_there o ≡ Ok pair → o ≡ Some pair
any_there None pair is = cc
any_there (Some p) pair is = ap Some (same_answer p pair is)

-- what an update makes of a record
pub updated_is : (ledger : Ledger) (pool : List ℕ) (pair new : PairRecord) → updated_record ledger pool pair ≡ Ok new → renewed_record pair ledger.time (held0 ledger pool) (held1 ledger pool) ≡ new
unfolding updated_record_to
updated_is ledger pool pair new is =
    let first = past_refusal (nat_lt RESERVE_LIMIT (held0 ledger pool)) code.Overflow _ new is in
    let second = past_refusal (nat_lt RESERVE_LIMIT (held1 ledger pool)) code.Overflow _ new first.1 in
    same_answer (renewed_record pair ledger.time (held0 ledger pool) (held1 ledger pool)) new second.1

updated_drift : (ledger : Ledger) (pool : List ℕ) (pair new : PairRecord) → updated_record ledger pool pair ≡ Ok new → Drift ledger.time pair new
updated_drift ledger pool pair new is =
    subst (Drift ledger.time pair) (updated_is ledger pool pair new is) (drift_renewed ledger.time pair (held0 ledger pool) (held1 ledger pool))

-- ---- the operations of a pair

-- what a sync leaves: the pool's pair with the accumulators of this time
pub record SyncedAt (old : Ledger) (pool : List ℕ) (made : Made PairRecord) : Type 0 where
  pub was : PairRecord
  pub found : pair_of old.pairs pool ≡ Some was
  pub renewed : renewed_record was old.time (held0 old pool) (held1 old pool) ≡ made.answer
  pub after : with_pair old pool made.answer ≡ made.ledger

pub sync_at : (ledger : Ledger) (pool : List ℕ) (made : Made PairRecord) → sync ledger pool ≡ Ok made → SyncedAt ledger pool made
unfolding sync
sync_at ledger pool made is =
    let first = given (free_pair ledger pool) _ made is in
    let second = given (updated_record ledger pool first.value) _ made first.after in
    subst (SyncedAt ledger pool) (same_answer (record { ledger = with_pair ledger pool second.value; answer = second.value }) made second.after) (record {
      was = first.value;
      found = free_there (pair_of ledger.pairs pool) first.value first.was;
      renewed = updated_is ledger pool first.value second.value second.was;
      after = refl;
    })

pub sync_drifts : (ledger : Ledger) (pool : List ℕ) (made : Made PairRecord) → sync ledger pool ≡ Ok made → Drifts ledger made.ledger
sync_drifts ledger pool made is =
    let s = sync_at ledger pool made is in
    subst (Drifts ledger) s.after (drifts_at pool ledger s.was made.answer s.found
    (subst (Drift ledger.time s.was) s.renewed (drift_renewed ledger.time s.was (held0 ledger pool) (held1 ledger pool))))

pub transfer_rest : (l : Ledger) (a : Asset) (f t : Holder) (n : ℕ) (made : Made (Unit {0})) → transfer l a f t n ≡ Ok made → Rest l made.ledger
transfer_rest l a f t n made is = (transfer_sent l a f t n made is).rest

pub transfer_drifts : (l : Ledger) (a : Asset) (f t : Holder) (n : ℕ) (made : Made (Unit {0})) → transfer l a f t n ≡ Ok made → Drifts l made.ledger
transfer_drifts l a f t n made is = drifts_rest l made.ledger (transfer_rest l a f t n made is)

both_rest : (l : Ledger) (pool : List ℕ) (n0 n1 : ℕ) (to : Holder) (made : Made (Unit {0})) → send_both l pool n0 n1 to ≡ Ok made → Rest l made.ledger
unfolding send_both
both_rest l pool n0 n1 to made is =
    let first = given (transfer l (asset0 pool) (holders.Pool pool) to n0) _ made is in
    rest_then l first.value.ledger made.ledger (transfer_rest l (asset0 pool) (holders.Pool pool) to n0 first.value first.was)
    (transfer_rest first.value.ledger (asset1 pool) (holders.Pool pool) to n1 made first.after)

pub skim_drifts : (ledger : Ledger) (pool : List ℕ) (to : Holder) (made : Made SkimReceipt) → skim ledger pool to ≡ Ok made → Drifts ledger made.ledger
unfolding skim
skim_drifts ledger pool to made is =
    let first = given (free_pair ledger pool) _ made is in
    let n0 : ℕ = held0 ledger pool - first.value.r0 in
    let n1 : ℕ = held1 ledger pool - first.value.r1 in
    let second = given (send_both ledger pool n0 n1 to) _ made first.after in
    let e = same_answer (record { ledger = second.value.ledger; answer = excess ledger pool first.value }) made second.after in
    subst (λ (m : Made SkimReceipt). Drifts ledger m.ledger) e
    (drifts_rest ledger second.value.ledger (both_rest ledger pool n0 n1 to second.value second.was))

lending_there : (ledger : Ledger) (pool : List ℕ) (out0 out1 : ℕ) (to : Holder) (pair : PairRecord) → lending_pair ledger pool out0 out1 to ≡ Ok pair → pair_of ledger.pairs pool ≡ Some pair
unfolding lending_pair
lending_there ledger pool out0 out1 to pair is =
    let first = given (free_pair ledger pool) _ pair is in
    let was : PairRecord = first.value in
    let asked = not_refused (out0 == 0 && out1 == 0) code.InsufficientOutputAmount _ pair first.after in
    let enough = not_refused (nat_le was.r0 out0 || nat_le was.r1 out1) code.InsufficientLiquidity _ pair asked.1 in
    let allowed = not_refused (is_token_of pool to) code.InvalidTo _ pair enough.1 in
    free_there (pair_of ledger.pairs pool) was first.was ∙ ap Some (same_answer was pair allowed.1)

pub lend_drifts : (ledger : Ledger) (pool : List ℕ) (out0 out1 : ℕ) (to : Holder) (made : Made PairRecord) → lend ledger pool out0 out1 to ≡ Ok made → Drifts ledger made.ledger
unfolding lend
lend_drifts ledger pool out0 out1 to made is =
    let first = given (lending_pair ledger pool out0 out1 to) _ made is in
    let was : PairRecord = first.value in
    let start : Ledger = with_pair ledger pool (locked_pair was) in
    let second = given (send_both start pool out0 out1 to) _ made first.after in
    let e = same_answer (record { ledger = second.value.ledger; answer = locked_pair was }) made second.after in
    subst (λ (m : Made PairRecord). Drifts ledger m.ledger) e
    (drifts_then ledger start second.value.ledger
    (drifts_at pool ledger was (locked_pair was) (lending_there ledger pool out0 out1 to was first.was) (drift_locked ledger.time was was (drift_same ledger.time was)))
    (drifts_rest start second.value.ledger (both_rest start pool out0 out1 to second.value second.was)))

pub give_back_drifts : (ledger : Ledger) (pool : List ℕ) (out0 out1 : ℕ) (made : Made SwapReceipt) → give_back ledger pool out0 out1 ≡ Ok made → Drifts ledger made.ledger
unfolding give_back settle_swap
give_back_drifts ledger pool out0 out1 made is =
    let first = given (if_there (pair_of ledger.pairs pool)) _ made is in
    let was : PairRecord = first.value in
    let paid : SwapReceipt = came_in ledger pool was out0 out1 in
    let some = not_refused (paid.in0 == 0 && paid.in1 == 0) code.InsufficientInputAmount _ made first.after in
    let fair = not_refused (not (keeps_product ledger pool was paid)) code.K _ made some.1 in
    let second = given (updated_record ledger pool was) _ made fair.1 in
    let e = same_answer (record { ledger = with_pair ledger pool (unlocked_pair second.value); answer = paid }) made second.after in
    subst (λ (m : Made SwapReceipt). Drifts ledger m.ledger) e
    (drifts_at pool ledger was (unlocked_pair second.value) (any_there (pair_of ledger.pairs pool) was first.was)
    (drift_unlocked ledger.time was second.value (updated_drift ledger pool was second.value second.was)))

pub swap_drifts : (ledger : Ledger) (pool : List ℕ) (out0 out1 : ℕ) (to : Holder) (made : Made SwapReceipt) → swap ledger pool out0 out1 to ≡ Ok made → Drifts ledger made.ledger
unfolding swap
swap_drifts ledger pool out0 out1 to made is =
    let lent = given (lend ledger pool out0 out1 to) _ made is in
    drifts_then ledger lent.value.ledger made.ledger (lend_drifts ledger pool out0 out1 to lent.value lent.was)
    (give_back_drifts lent.value.ledger pool out0 out1 made lent.after)

more_rest : (l : Ledger) (a : Asset) (h : Holder) (n : ℕ) → Rest l (with_more l a h n)
more_rest l a h n = (added_added l a h n).rest

fee_rest : (l : Ledger) (pool : List ℕ) (fee : ℕ) → Rest l (with_fee l pool fee)
unfolding with_fee
fee_rest l pool fee = by (fee == 0)
  where
    by : (none : Bool) → Rest l (if none then l else with_more l (assets.Share pool) l.fee_to fee)
    by true = rest_same l
    by false = more_rest l (assets.Share pool) l.fee_to fee

shares_rest : (l : Ledger) (pool : List ℕ) (to : Holder) (before n : ℕ) → Rest l (with_shares l pool to before n)
unfolding with_shares
shares_rest l pool to before n = by (before == 0)
  where
    share : Asset
    share = assets.Share pool

    by : (none : Bool) → Rest l (if none then with_more (with_more l share to n) share holders.Zero FIRST_LOCKED else with_more l share to n)
    by true = rest_then l (with_more l share to n) (with_more (with_more l share to n) share holders.Zero FIRST_LOCKED) (more_rest l share to n) (more_rest (with_more l share to n) share holders.Zero FIRST_LOCKED)
    by false = more_rest l share to n

pub mint_drifts : (l : Ledger) (pool : List ℕ) (to : Holder) (made : Made MintReceipt) → mint l pool to ≡ Ok made → Drifts l made.ledger
unfolding mint
mint_drifts l pool to made is =
    let first = given (free_pair l pool) _ made is in
    let was : PairRecord = first.value in
    let fee : ℕ = fee_due l pool was in
    let before : ℕ = supply l pool + fee in
    let shares : ℕ = shares_for l pool was before in
    let paid : Ledger = with_fee l pool fee in
    let mid : Ledger = with_shares paid pool to before shares in
    let some = not_refused (shares == 0) code.InsufficientLiquidityMinted _ made first.after in
    let second = given (updated_record mid pool was) _ made some.1 in
    let nobody : Bool = is_nobody l.fee_to in
    let e = same_answer (record { ledger = with_pair mid pool (with_product nobody second.value); answer = record { shares = shares; fee_shares = fee } }) made second.after in
    subst (λ (m : Made MintReceipt). Drifts l m.ledger) e
    (drifts_after pool l mid was (with_product nobody second.value) (rest_then l paid mid (fee_rest l pool fee) (shares_rest paid pool to before shares))
    (free_there (pair_of l.pairs pool) was first.was) (drift_product mid.time was second.value (updated_drift mid pool was second.value second.was) nobody))

pub burn_drifts : (l : Ledger) (pool : List ℕ) (to : Holder) (made : Made BurnReceipt) → burn l pool to ≡ Ok made → Drifts l made.ledger
unfolding burn
burn_drifts l pool to made is =
    let first = given (free_pair l pool) _ made is in
    let was : PairRecord = first.value in
    let fee : ℕ = fee_due l pool was in
    let s : ℕ = supply l pool + fee in
    let parts : BurnReceipt = burn_amounts l pool s fee in
    let paid : Ledger = with_fee l pool fee in
    let some = not_refused (s == 0) code.InsufficientLiquidityBurned _ made first.after in
    let pays = not_refused (parts.amount0 == 0 || parts.amount1 == 0) code.InsufficientLiquidityBurned _ made some.1 in
    let ended = given (retire paid (assets.Share pool) (holders.Pool pool) (own_shares l pool)) _ made pays.1 in
    let out = given (send_both ended.value.ledger pool parts.amount0 parts.amount1 to) _ made ended.after in
    let mid : Ledger = out.value.ledger in
    let second = given (updated_record mid pool was) _ made out.after in
    let nobody : Bool = is_nobody l.fee_to in
    let e = same_answer (record { ledger = with_pair mid pool (with_product nobody second.value); answer = parts }) made second.after in
    let fewer = (retire_taken paid (assets.Share pool) (holders.Pool pool) (own_shares l pool) ended.value ended.was).1.rest in
    let rest = rest_then l paid mid (fee_rest l pool fee) (rest_then paid ended.value.ledger mid fewer (both_rest ended.value.ledger pool parts.amount0 parts.amount1 to out.value out.was)) in
    subst (λ (m : Made BurnReceipt). Drifts l m.ledger) e
    (drifts_after pool l mid was (with_product nobody second.value) rest (free_there (pair_of l.pairs pool) was first.was)
    (drift_product mid.time was second.value (updated_drift mid pool was second.value second.was) nobody))

-- ---- a new pair

add_pair_drifts : (l : Ledger) (pool : List ℕ) (made : Made (Unit {0})) → add_pair l pool ≡ Ok made → Drifts l made.ledger
add_pair_drifts l pool made is = subst (Drifts l) (sym (add_pair_made l pool made is).1) (record {
  time = refl;
  observations = refl;
  pairs = λ other was at. record { now = was; there = found_before l.pairs pool zero_pair other was at; drift = drift_same l.time was };
})

pub create_drifts : (ledger : Ledger) (a b : List ℕ) (fee : ℕ) (made : Made (List ℕ)) → create ledger a b fee ≡ Ok made → Drifts ledger made.ledger
unfolding create
create_drifts ledger a b fee made is =
    let named = given (ok_or (pool_between a b fee) code.Identical) _ made is in
    let listed = not_refused (not (is_listed ledger.tokens a) || not (is_listed ledger.tokens b)) code.UnknownToken _ made named.after in
    let new = not_refused (is_some (pair_of ledger.pairs named.value)) code.PairExists _ made listed.1 in
    let last = given (add_pair ledger named.value) _ made new.1 in
    subst (λ (m : Made (List ℕ)). Drifts ledger m.ledger) (same_answer (record { ledger = last.value.ledger; answer = named.value }) made last.after)
    (add_pair_drifts ledger named.value last.value last.was)
