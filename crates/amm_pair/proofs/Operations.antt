-- What an accepted operation of a pair leaves.
use Rattle.std.proofs.Common.{◌≡◌, ◌≢◌, ◌≤◌, ◌<◌, ◌+◌, ◌-◌, ◌*◌, ◌^◌, ◌%◌, ℕ, nat_lt, nat_eq, ◌⊎◌, Bool, true, false, List, Option, Some, None, Ok, refl, sym, ap, ◌∙◌, inl, inr, subst, arith}
use Rattle.std.proofs.lemmas.Bool.Decides.{nat_tests}
use Rattle.std.proofs.Math.Nat.{mul-le-mul}
use Rattle.std.specs.Prelude.{if◌then◌else◌}
use Rattle.amm_names.specs.declared.holder.Holder.{Holder}
use Rattle.amm_names.specs.declared.holder.Holder.TheVariants as holders
use Rattle.amm_names.specs.declared.holder.Asset.{Asset}
use Rattle.amm_names.specs.declared.holder.Asset.TheVariants as assets
use Rattle.amm_model.specs.declared.pair.PairRecord.{PairRecord}
use Rattle.amm_model.specs.declared.pair.SkimReceipt.{SkimReceipt}
use Rattle.amm_model.specs.declared.fault.Refusal.TheVariants as code
use Rattle.amm_names.specs.Pools.{pool_token0, pool_token1}
use Rattle.amm_model.specs.Formulas.{IsBacked, accumulator_after}
use Rattle.amm_model.specs.Ledger.{Ledger, Pairs, balance, total, pair_of, set_pair, with_pair, is_listed}
use Rattle.amm_model.specs.Outcome.{Made}
use Rattle.amm_model.specs.Postings.{transfer}
use Rattle.amm_model.specs.declared.limits.TheConstants.{AMOUNT_LIMIT, FIRST_LOCKED, RESERVE_LIMIT}
use Rattle.amm_model.specs.Pools.{asset0, asset1, held0, held1, supply}
use Rattle.amm_model.specs.Operations.{if_free, free_pair, renewed_record, updated_record_to, updated_record, sync, send_both, skim, excess}
use Rattle.amm_model.specs.Sound.{IsSmall, IsCovered, IsSoundPair, IsSound}
use Rattle.amm_model.proofs.Guards.{given, past_refusal, same_answer}
use Rattle.amm_model.proofs.Names.{some_there, pair_of-set_here}
use Rattle.amm_model.proofs.Transfers.{Sent, transfer_sent}
use Rattle.amm_model.proofs.Laters.{Kept, kept_at}
use Rattle.amm_model.proofs.Soundness.{OnlyAt, only_at_then, same_only, with_pair_only, sent_only, sound_but_at, tokens_apart}

-- a pair that was there and free
pub record Found (ledger : Ledger) (pool : List ℕ) (pair : PairRecord) : Type 0 where
  pub there : pair_of ledger.pairs pool ≡ Some pair
  pub free : pair.locked ≡ false

found : (ledger : Ledger) (pool : List ℕ) (o : Option PairRecord) (pair : PairRecord) → pair_of ledger.pairs pool ≡ o → if_free o ≡ Ok pair → Found ledger pool pair
found ledger pool None pair at is = cc
found ledger pool (Some p) pair at is =
    let free = past_refusal p.locked code.Locked (Ok p) pair is in
    let e : p ≡ pair = same_answer p pair free.1 in
    record { there = at ∙ ap Some e; free = ap (λ (q : PairRecord). q.locked) (sym e) ∙ free.0 }

pub free_found : (ledger : Ledger) (pool : List ℕ) (pair : PairRecord) → free_pair ledger pool ≡ Ok pair → Found ledger pool pair
free_found ledger pool pair is = found ledger pool _ pair refl is

-- what an update makes of a record
pub record Renewed (ledger : Ledger) (pool : List ℕ) (pair new : PairRecord) : Type 0 where
  pub is : new ≡ renewed_record pair ledger.time (held0 ledger pool) (held1 ledger pool)
  pub small0 : held0 ledger pool ≤ RESERVE_LIMIT
  pub small1 : held1 ledger pool ≤ RESERVE_LIMIT

pub updated_renewed : (ledger : Ledger) (pool : List ℕ) (pair new : PairRecord) → updated_record ledger pool pair ≡ Ok new → Renewed ledger pool pair new
unfolding updated_record_to
updated_renewed ledger pool pair new is =
    let first = past_refusal (nat_lt RESERVE_LIMIT (held0 ledger pool)) code.Overflow _ new is in
    let second = past_refusal (nat_lt RESERVE_LIMIT (held1 ledger pool)) code.Overflow _ new first.1 in
    let told0 : nat_lt RESERVE_LIMIT (held0 ledger pool) ≡ false = first.0 in
    let told1 : nat_lt RESERVE_LIMIT (held1 ledger pool) ≡ false = second.0 in
    record {
      is = sym (same_answer (renewed_record pair ledger.time (held0 ledger pool) (held1 ledger pool)) new second.1);
      small0 = grind (arith, nat_tests);
      small1 = grind (arith, nat_tests);
    }

kept_or_wrapped : (b c : Bool) (acc n : ℕ) → acc < 2 ^ 128 → (if b then acc else (if c then acc else n % 2 ^ 128)) < 2 ^ 128
kept_or_wrapped true c acc n small = small
kept_or_wrapped false true acc n small = small
kept_or_wrapped false false acc n small = omega arith

grown-small : (acc p q e : ℕ) → acc < 2 ^ 128 → accumulator_after acc p q e < 2 ^ 128
grown-small acc p q e small = kept_or_wrapped (nat_eq p 0) (nat_eq q 0) acc _ small

-- the renewed record is within the widths
pub renewed_small : (pair : PairRecord) (time b0 b1 : ℕ) → IsSmall pair → b0 ≤ RESERVE_LIMIT → b1 ≤ RESERVE_LIMIT → IsSmall (renewed_record pair time b0 b1)
renewed_small pair time b0 b1 small s0 s1 = record {
  r0 = s0;
  r1 = s1;
  last = omega arith;
  acc0 = grown-small pair.acc0 pair.r1 pair.r0 _ small.acc0;
  acc1 = grown-small pair.acc1 pair.r0 pair.r1 _ small.acc1;
}

-- what backed the shares backs them where the product did not fall
pub backed_grown : (s r0 r1 b0 b1 k : ℕ) → r0 * r1 ≤ b0 * b1 → IsBacked s r0 r1 k → IsBacked s b0 b1 k
backed_grown s r0 r1 b0 b1 k up backed = record {
  backed = omega (arith, backed.backed);
  kept = λ some. let both = backed.kept some in (both.0, omega (arith, both.1));
}

-- the first shares of the pool lie with the zero holder
abbrev pub IsKept : Ledger → List ℕ → Type 0
IsKept ledger pool = (supply ledger pool ≡ 0) ⊎ (FIRST_LOCKED ≤ balance ledger (assets.Share pool) holders.Zero)

-- a new record whose reserves are what the pool has keeps the ledger sound
pub settled_sound : (pool : List ℕ) (old mid : Ledger) (was now : PairRecord) → IsSound old → pair_of old.pairs pool ≡ Some was → OnlyAt pool old mid → pair_of mid.pairs pool ≡ Some was
    → supply mid pool ≤ AMOUNT_LIMIT → IsSmall now → now.r0 ≡ held0 mid pool → now.r1 ≡ held1 mid pool → IsBacked (supply mid pool) now.r0 now.r1 now.k_last → IsKept mid pool
    → IsSound (with_pair mid pool now)
settled_sound pool old mid was now sound at only still limit small e0 e1 backed kept =
    let there = some_there (pair_of mid.pairs pool) was still in
    let written : pair_of (set_pair mid.pairs pool now) pool ≡ Some now = pair_of-set_here mid.pairs pool now there in
    let before = sound.pairs pool was at in
    let this : IsSoundPair (with_pair mid pool now) pool now = record {
      listed = subst (λ (ts : List (List ℕ)). (is_listed ts (pool_token0 pool) ≡ true) × (is_listed ts (pool_token1 pool) ≡ true)) (sym only.tokens) before.listed;
      small = small;
      covered = λ free. record { first = omega (arith, e0); second = omega (arith, e1) };
      backed = backed;
      kept = kept;
    } in
    sound_but_at pool old (with_pair mid pool now) now sound (only_at_then pool old mid (with_pair mid pool now) only (with_pair_only mid pool now there)) written limit this

-- what a sync leaves
pub record Synced (old : Ledger) (pool : List ℕ) (made : Ledger) : Type 0 where
  pub was : PairRecord
  pub found : Found old pool was
  pub now : PairRecord
  pub renewed : Renewed old pool was now
  pub after : made ≡ with_pair old pool now

pub sync_synced : (ledger : Ledger) (pool : List ℕ) (made : Made PairRecord) → sync ledger pool ≡ Ok made → Synced ledger pool made.ledger
unfolding sync
sync_synced ledger pool made is =
    let first = given (free_pair ledger pool) _ made is in
    let second = given (updated_record ledger pool first.value) _ made first.after in
    record {
      was = first.value;
      found = free_found ledger pool first.value first.was;
      now = second.value;
      renewed = updated_renewed ledger pool first.value second.value second.was;
      after = ap (λ (m : Made PairRecord). m.ledger) (sym (same_answer (record { ledger = with_pair ledger pool second.value; answer = second.value }) made second.after));
    }

pub sync_sound : (ledger : Ledger) (pool : List ℕ) (made : Made PairRecord) → IsSound ledger → sync ledger pool ≡ Ok made → IsSound made.ledger
sync_sound ledger pool made sound is =
    let done = sync_synced ledger pool made is in
    let before = sound.pairs pool done.was done.found.there in
    let covers = before.covered done.found.free in
    let new = renewed_record done.was ledger.time (held0 ledger pool) (held1 ledger pool) in
    let up : done.was.r0 * done.was.r1 ≤ held0 ledger pool * held1 ledger pool = mul-le-mul covers.first covers.second in
    let settled : IsSound (with_pair ledger pool new) =
    settled_sound pool ledger ledger done.was new sound done.found.there (same_only pool ledger) done.found.there (sound.totals (assets.Share pool))
    (renewed_small done.was ledger.time (held0 ledger pool) (held1 ledger pool) before.small done.renewed.small0 done.renewed.small1) refl refl
    (backed_grown (supply ledger pool) done.was.r0 done.was.r1 (held0 ledger pool) (held1 ledger pool) done.was.k_last up before.backed) before.kept in
    subst IsSound (sym (done.after ∙ ap (with_pair ledger pool) done.renewed.is)) settled

-- two transfers of a pool, one of each of its tokens
pub record BothSent (pool : List ℕ) (n0 n1 : ℕ) (old new : Ledger) : Type 0 where
  pub half : Ledger
  pub first : Sent (asset0 pool) (holders.Pool pool) n0 old half
  pub second : Sent (asset1 pool) (holders.Pool pool) n1 half new

pub both_sent_each : (l : Ledger) (pool : List ℕ) (n0 n1 : ℕ) (to : Holder) (made : Made (Unit {0})) → send_both l pool n0 n1 to ≡ Ok made → BothSent pool n0 n1 l made.ledger
unfolding send_both
both_sent_each l pool n0 n1 to made is =
    let first = given (transfer l (asset0 pool) (holders.Pool pool) to n0) _ made is in
    record {
      half = first.value.ledger;
      first = transfer_sent l (asset0 pool) (holders.Pool pool) to n0 first.value first.was;
      second = transfer_sent first.value.ledger (asset1 pool) (holders.Pool pool) to n1 made first.after;
    }

module _ (pool : List ℕ) (n0 n1 : ℕ) (old new : Ledger) (sent : BothSent pool n0 n1 old new) where
  pub both_only : OnlyAt pool old new
  both_only = only_at_then pool old sent.half new (sent_only (asset0 pool) pool n0 old sent.half sent.first) (sent_only (asset1 pool) pool n1 sent.half new sent.second)

  pub both_pairs : new.pairs ≡ old.pairs
  both_pairs = sent.second.rest.pairs ∙ sent.first.rest.pairs

  pub both_totals : (q : Asset) → total new q ≡ total old q
  both_totals q = sent.second.totals q ∙ sent.first.totals q

  -- since the tokens differ, neither transfer touches the other's balance
  module _ (apart : pool_token0 pool ≢ pool_token1 pool) where
    same1 : held1 sent.half pool ≡ held1 old pool
    same1 = sent.first.others (asset1 pool) (holders.Pool pool) (tokens_apart (pool_token1 pool) (pool_token0 pool) (λ e. apart (sym e)))

    same0 : held0 new pool ≡ held0 sent.half pool
    same0 = sent.second.others (asset0 pool) (holders.Pool pool) (tokens_apart (pool_token0 pool) (pool_token1 pool) apart)

    pub least0 : held0 old pool ≤ held0 new pool + n0
    least0 = omega (arith, sent.first.least, same0)

    pub least1 : held1 old pool ≤ held1 new pool + n1
    least1 = omega (arith, sent.second.least, same1)

-- what a skim leaves
pub record Skimmed (old : Ledger) (pool : List ℕ) (made : Ledger) : Type 0 where
  pub was : PairRecord
  pub found : Found old pool was
  pub sent : BothSent pool (held0 old pool - was.r0) (held1 old pool - was.r1) old made

pub skim_skimmed : (ledger : Ledger) (pool : List ℕ) (to : Holder) (made : Made SkimReceipt) → skim ledger pool to ≡ Ok made → Skimmed ledger pool made.ledger
unfolding skim
skim_skimmed ledger pool to made is =
    let first = given (free_pair ledger pool) _ made is in
    let n0 : ℕ = held0 ledger pool - first.value.r0 in
    let n1 : ℕ = held1 ledger pool - first.value.r1 in
    let second = given (send_both ledger pool n0 n1 to) _ made first.after in
    let e = same_answer (record { ledger = second.value.ledger; answer = excess ledger pool first.value }) made second.after in
    record {
      was = first.value;
      found = free_found ledger pool first.value first.was;
      sent = subst (λ (m : Made SkimReceipt). BothSent pool n0 n1 ledger m.ledger) e (both_sent_each ledger pool n0 n1 to second.value second.was);
    }

-- a pool that is still covered after it sent something
pub sent_sound : (pool : List ℕ) (n0 n1 : ℕ) (old new : Ledger) (was : PairRecord) → IsSound old → pair_of old.pairs pool ≡ Some was → BothSent pool n0 n1 old new
    → (was.locked ≡ false → IsCovered new pool was) → IsSound new
sent_sound pool n0 n1 old new was sound at sent covered =
    let before = sound.pairs pool was at in
    let still : pair_of new.pairs pool ≡ Some was = ap (λ (ps : Pairs). pair_of ps pool) (both_pairs pool n0 n1 old new sent) ∙ at in
    let only = both_only pool n0 n1 old new sent in
    let same : supply new pool ≡ supply old pool = both_totals pool n0 n1 old new sent (assets.Share pool) in
    let this : IsSoundPair new pool was = record {
      listed = subst (λ (ts : List (List ℕ)). (is_listed ts (pool_token0 pool) ≡ true) × (is_listed ts (pool_token1 pool) ≡ true)) (sym only.tokens) before.listed;
      small = before.small;
      covered = covered;
      backed = subst (λ (s : ℕ). IsBacked s was.r0 was.r1 was.k_last) (sym same) before.backed;
      kept = elim before.kept [ inl none ↦ inl (same ∙ none) | inr some ↦ inr (omega (arith, only.zero (assets.Share pool))) ];
    } in
    sound_but_at pool old new was sound only still (omega (arith, same, sound.totals (assets.Share pool))) this

pub skim_sound : (ledger : Ledger) (pool : List ℕ) (to : Holder) (made : Made SkimReceipt) → pool_token0 pool ≢ pool_token1 pool → IsSound ledger → skim ledger pool to ≡ Ok made → IsSound made.ledger
skim_sound ledger pool to made apart sound is =
    let done = skim_skimmed ledger pool to made is in
    let before = sound.pairs pool done.was done.found.there in
    let covers = before.covered done.found.free in
    let n0 : ℕ = held0 ledger pool - done.was.r0 in
    let n1 : ℕ = held1 ledger pool - done.was.r1 in
    sent_sound pool n0 n1 ledger made.ledger done.was sound done.found.there done.sent
    (λ free. record { first = omega (arith, least0 pool n0 n1 ledger made.ledger done.sent apart, covers.first); second = omega (arith, least1 pool n0 n1 ledger made.ledger done.sent apart, covers.second) })

-- ---- what a sync and a skim keep

module _ (ledger : Ledger) (pool : List ℕ) (made : Made PairRecord) (is : sync ledger pool ≡ Ok made) where
  synced : Synced ledger pool made.ledger
  synced = sync_synced ledger pool made is

  sync_only : OnlyAt pool ledger made.ledger
  sync_only = subst (OnlyAt pool ledger) (sym synced.after) (with_pair_only ledger pool synced.now (some_there (pair_of ledger.pairs pool) synced.was synced.found.there))

  pub sync_kept : Kept ledger made.ledger
  sync_kept =
      kept_at pool ledger made.ledger synced.was synced.now sync_only synced.found.there synced.found.free
      (ap (λ (l : Ledger). pair_of l.pairs pool) synced.after ∙ pair_of-set_here ledger.pairs pool synced.now (some_there (pair_of ledger.pairs pool) synced.was synced.found.there))
      (ap (λ (p : PairRecord). p.locked) synced.renewed.is ∙ synced.found.free) (λ sound. sync_sound ledger pool made sound is)

module _ (ledger : Ledger) (pool : List ℕ) (to : Holder) (made : Made SkimReceipt) (is : skim ledger pool to ≡ Ok made) where
  skimmed : Skimmed ledger pool made.ledger
  skimmed = skim_skimmed ledger pool to made is

  skim_only : OnlyAt pool ledger made.ledger
  skim_only = both_only pool (held0 ledger pool - skimmed.was.r0) (held1 ledger pool - skimmed.was.r1) ledger made.ledger skimmed.sent

  pub skim_kept : pool_token0 pool ≢ pool_token1 pool → Kept ledger made.ledger
  skim_kept apart =
      kept_at pool ledger made.ledger skimmed.was skimmed.was skim_only skimmed.found.there skimmed.found.free
      (ap (λ (ps : Pairs). pair_of ps pool) (both_pairs pool _ _ ledger made.ledger skimmed.sent) ∙ skimmed.found.there) skimmed.found.free (λ sound. skim_sound ledger pool to made apart sound is)
