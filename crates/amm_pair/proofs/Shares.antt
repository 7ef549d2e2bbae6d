-- What an accepted mint leaves.
use Rattle.std.proofs.Common.{◌≡◌, ◌≢◌, ◌≤◌, ◌<◌, ◌+◌, ◌-◌, ◌*◌, ◌==◌, ℕ, Bool, true, false, List, Ok, refl, sym, ap, ◌∙◌, inl, inr, subst, arith}
use Rattle.std.specs.Prelude.{if◌then◌else◌}
use Rattle.std.proofs.lemmas.Bool.Decides.{nat_tests}
use Rattle.std.proofs.lemmas.Bool.{both_ways, eqb-true, eq-eqb}
use Rattle.amm_names.specs.declared.holder.Holder.{Holder}
use Rattle.amm_names.specs.declared.holder.Holder.TheVariants as holders
use Rattle.amm_names.specs.declared.holder.Asset.{Asset}
use Rattle.amm_names.specs.declared.holder.Asset.TheVariants as assets
use Rattle.amm_model.specs.declared.pair.PairRecord.{PairRecord}
use Rattle.amm_model.specs.declared.pair.MintReceipt.{MintReceipt}
use Rattle.amm_model.specs.declared.fault.Refusal.TheVariants as code
use Rattle.amm_names.specs.Pools.{pool_token0, pool_token1}
use Rattle.amm_model.specs.Formulas.{IsBacked, fee_shares_of, later_shares_of}
use Rattle.amm_model.specs.Root.{root_of}
use Rattle.amm_model.specs.Ledger.{Ledger, Pairs, balance, total, with_more, pair_of, with_pair}
use Rattle.amm_model.specs.Outcome.{Made}
use Rattle.amm_model.specs.declared.limits.TheConstants.{AMOUNT_LIMIT, FIRST_LOCKED}
use Rattle.amm_model.specs.Pools.{asset0, asset1, held0, held1, supply}
use Rattle.amm_model.specs.Operations.{free_pair, updated_record, is_nobody, fee_due, with_fee, with_product, shares_for, with_shares, mint, PerShareKept}
use Rattle.amm_model.specs.Sound.{IsCovered, IsSoundPair, IsSound}
use Rattle.amm_model.proofs.LedgerLemmas.{balance_within_total}
use Rattle.amm_model.proofs.Guards.{given, not_refused, same_answer}
use Rattle.amm_model.proofs.Balances.{Rest, rest_then, rest_same, Added, added_added}
use Rattle.amm_model.proofs.Soundness.{OnlyAt, rest_only, share_not_token}
use Rattle.amm_model.proofs.Laters.{Kept}
use Rattle.amm_pool.proofs.Products.{fee_within, no_fee, later_product}
use Rattle.amm_pair.proofs.Operations.{Found, free_found, Renewed, updated_renewed, IsKept}
use Rattle.amm_pair.proofs.Minting.{square_within, minted_square, locked_first}
use Rattle.amm_pair.proofs.Ending.{Ended, ended_kept, ended_sound, ended_per_share}

-- the squared supply after a mint is within the product of what the pool has
shares_square : (l : Ledger) (pool : List ℕ) (pair : PairRecord) (s : ℕ) → pair.r0 ≤ held0 l pool → pair.r1 ≤ held1 l pool → s * s ≤ pair.r0 * pair.r1
    → shares_for l pool pair s ≢ 0 → (s + (shares_for l pool pair s + locked_first s)) * (s + (shares_for l pool pair s + locked_first s)) ≤ held0 l pool * held1 l pool
unfolding shares_for
shares_square l pool pair s cover0 cover1 backed some =
    let square = minted_square s pair.r0 pair.r1 (held0 l pool - pair.r0) (held1 l pool - pair.r1) backed some in
    let e0 : pair.r0 + (held0 l pool - pair.r0) ≡ held0 l pool = omega arith in
    let e1 : pair.r1 + (held1 l pool - pair.r1) ≡ held1 l pool = omega arith in
    rw (e0, e1) at square

pub shares_room : (l : Ledger) (pool : List ℕ) (pair : PairRecord) (s : ℕ) → IsSound l → pair.r0 ≤ held0 l pool → pair.r1 ≤ held1 l pool → s * s ≤ pair.r0 * pair.r1
    → shares_for l pool pair s ≢ 0 → s + (shares_for l pool pair s + locked_first s) ≤ AMOUNT_LIMIT
shares_room l pool pair s sound cover0 cover1 backed some =
    let within0 : held0 l pool ≤ AMOUNT_LIMIT = omega (arith, balance_within_total l (asset0 pool) (holders.Pool pool), sound.totals (asset0 pool)) in
    let within1 : held1 l pool ≤ AMOUNT_LIMIT = omega (arith, balance_within_total l (asset1 pool) (holders.Pool pool), sound.totals (asset1 pool)) in
    square_within _ (held0 l pool) (held1 l pool) (shares_square l pool pair s cover0 cover1 backed some) within0 within1

-- n shares of the pool were added, to anybody
pub record Grown (pool : List ℕ) (n : ℕ) (old new : Ledger) : Type 0 where
  pub rest : Rest old new
  pub grown : (q : Asset) (p : Holder) → balance old q p ≤ balance new q p
  pub others : (q : Asset) (p : Holder) → q ≢ assets.Share pool → balance new q p ≡ balance old q p
  pub whole : supply new pool ≡ supply old pool + n
  pub totals : (q : Asset) → q ≢ assets.Share pool → total new q ≡ total old q

added_grown : (pool : List ℕ) (h : Holder) (n : ℕ) (old new : Ledger) → Added (assets.Share pool) h n old new → Grown pool n old new
added_grown pool h n old new with_more = record { rest = with_more.rest; grown = with_more.grown; others = with_more.others; whole = with_more.whole; totals = with_more.totals }

none_grown : (pool : List ℕ) (n : ℕ) (l : Ledger) → n ≡ 0 → Grown pool n l l
none_grown pool n l none = record { rest = rest_same l; grown = λ q p. omega arith; others = λ q p apart. refl; whole = omega arith; totals = λ q apart. refl }

grown_then : (pool : List ℕ) (m n : ℕ) (a b c : Ledger) → Grown pool m a b → Grown pool n b c → Grown pool (m + n) a c
grown_then pool m n a b c first second = record {
  rest = rest_then a b c first.rest second.rest;
  grown = λ q p. omega (arith, first.grown q p, second.grown q p);
  others = λ q p apart. second.others q p apart ∙ first.others q p apart;
  whole = omega (arith, first.whole, second.whole);
  totals = λ q apart. second.totals q apart ∙ first.totals q apart;
}

pub fee_grown : (l : Ledger) (pool : List ℕ) (fee : ℕ) → Grown pool fee l (with_fee l pool fee)
unfolding with_fee
fee_grown l pool fee = by_test (fee == 0) refl
  where
    by_test : (b : Bool) → (fee == 0) ≡ b → Grown pool fee l (if b then l else with_more l (assets.Share pool) l.fee_to fee)
    by_test true e = none_grown pool fee l (eqb-true fee 0 e)
    by_test false e = added_grown pool l.fee_to fee l _ (added_added l (assets.Share pool) l.fee_to fee)

-- and where there were none, the zero holder has the first
pub record Shared (pool : List ℕ) (before n : ℕ) (old new : Ledger) : Type 0 where
  pub grown : Grown pool (n + locked_first before) old new
  pub first : before ≡ 0 → FIRST_LOCKED ≤ balance new (assets.Share pool) holders.Zero

shares_by : (l : Ledger) (pool : List ℕ) (to : Holder) (before n : ℕ) (b : Bool) → (before == 0) ≡ b
    → Grown pool (n + (if b then FIRST_LOCKED else 0)) l (if b then with_more (with_more l (assets.Share pool) to n) (assets.Share pool) holders.Zero FIRST_LOCKED else with_more l (assets.Share pool) to n)
    × (before ≡ 0 → FIRST_LOCKED ≤ balance (if b then with_more (with_more l (assets.Share pool) to n) (assets.Share pool) holders.Zero FIRST_LOCKED else with_more l (assets.Share pool) to n) (assets.Share pool) holders.Zero)
shares_by l pool to before n true e =
    let mid : Ledger = with_more l (assets.Share pool) to n in
    let last = added_added mid (assets.Share pool) holders.Zero FIRST_LOCKED in (
      grown_then pool n FIRST_LOCKED l mid _ (added_grown pool to n l mid (added_added l (assets.Share pool) to n)) (added_grown pool holders.Zero FIRST_LOCKED mid _ last),
      λ none. omega (arith, last.here),
    )
shares_by l pool to before n false e =
    let more = added_added l (assets.Share pool) to n in
    let same : n ≡ n + 0 = omega arith in (
      subst (λ (k : ℕ). Grown pool k l (with_more l (assets.Share pool) to n)) same (added_grown pool to n l _ more),
      λ none. absurd (both_ways (before == 0) e (eq-eqb before 0 none)),
    )

shares_shared : (l : Ledger) (pool : List ℕ) (to : Holder) (before n : ℕ) → Shared pool before n l (with_shares l pool to before n)
unfolding with_shares
shares_shared l pool to before n = let both = shares_by l pool to before n (before == 0) refl in record { grown = both.0; first = both.1 }

pub grown_only : (pool : List ℕ) (n : ℕ) (old new : Ledger) → Grown pool n old new → OnlyAt pool old new
grown_only pool n old new g = rest_only pool old new g.rest (λ q p apart. g.grown q p) g.totals

pub fee_due_within : (l : Ledger) (pool : List ℕ) (pair : PairRecord) → IsBacked (supply l pool) pair.r0 pair.r1 pair.k_last
    → (supply l pool + fee_due l pool pair) * (supply l pool + fee_due l pool pair) ≤ pair.r0 * pair.r1
unfolding fee_due
fee_due_within l pool pair backed = by_test (is_nobody l.fee_to)
  where
    by_test : (b : Bool) → (supply l pool + (if b then 0 else fee_shares_of (supply l pool) pair.r0 pair.r1 pair.k_last)) * (supply l pool + (if b then 0 else fee_shares_of (supply l pool) pair.r0 pair.r1 pair.k_last)) ≤ pair.r0 * pair.r1
    by_test true = omega (arith, backed.backed)
    by_test false = fee_within (supply l pool) pair.r0 pair.r1 pair.k_last backed

pub no_fee_due : (l : Ledger) (pool : List ℕ) (pair : PairRecord) → supply l pool ≡ 0 → fee_due l pool pair ≡ 0
unfolding fee_due
no_fee_due l pool pair none = by_test (is_nobody l.fee_to)
  where
    by_test : (b : Bool) → (if b then 0 else fee_shares_of (supply l pool) pair.r0 pair.r1 pair.k_last) ≡ 0
    by_test true = refl
    by_test false = ap (λ (n : ℕ). fee_shares_of n pair.r0 pair.r1 pair.k_last) none ∙ no_fee pair.r0 pair.r1 pair.k_last

-- the ledger with the fee and n shares given
abbrev minted : Ledger → List ℕ → Holder → (fee n : ℕ) → Ledger
minted l pool to fee n = with_shares (with_fee l pool fee) pool to (supply l pool + fee) n

-- what a mint leaves
pub record Minted (old : Ledger) (pool : List ℕ) (to : Holder) (made : Ledger) (receipt : MintReceipt) : Type 0 where
  pub was : PairRecord
  pub found : Found old pool was
  pub some : shares_for old pool was (supply old pool + fee_due old pool was) ≢ 0
  pub fee : receipt.fee_shares ≡ fee_due old pool was
  pub mid : Ledger
  pub mid_is : mid ≡ minted old pool to (fee_due old pool was) (shares_for old pool was (supply old pool + fee_due old pool was))
  pub now : PairRecord
  pub renewed : Renewed mid pool was now
  pub after : made ≡ with_pair mid pool (with_product (is_nobody old.fee_to) now)

pub not_zero : (n : ℕ) → (n == 0) ≡ false → n ≢ 0
not_zero n e = grind (arith, nat_tests)

pub mint_minted : (l : Ledger) (pool : List ℕ) (to : Holder) (made : Made MintReceipt) → mint l pool to ≡ Ok made → Minted l pool to made.ledger made.answer
unfolding mint
mint_minted l pool to made is =
    let first = given (free_pair l pool) _ made is in
    let was : PairRecord = first.value in
    let fee : ℕ = fee_due l pool was in
    let n : ℕ = shares_for l pool was (supply l pool + fee) in
    let some = not_refused (n == 0) code.InsufficientLiquidityMinted _ made first.after in
    let mid : Ledger = minted l pool to fee n in
    let second = given (updated_record mid pool was) _ made some.1 in
    let e = same_answer (record { ledger = with_pair mid pool (with_product (is_nobody l.fee_to) second.value); answer = record { shares = n; fee_shares = fee } }) made second.after in
    record {
      was = was;
      found = free_found l pool was first.was;
      some = not_zero n some.0;
      fee = ap (λ (m : Made MintReceipt). m.answer.fee_shares) (sym e);
      mid = mid;
      mid_is = refl;
      now = second.value;
      renewed = updated_renewed mid pool was second.value second.was;
      after = ap (λ (m : Made MintReceipt). m.ledger) (sym e);
    }

shares_product : (l : Ledger) (pool : List ℕ) (pair : PairRecord) (s : ℕ) → 0 < s → pair.r0 ≤ held0 l pool → pair.r1 ≤ held1 l pool
    → (pair.r0 * pair.r1) * ((s + (shares_for l pool pair s + locked_first s)) * (s + (shares_for l pool pair s + locked_first s))) ≤ (held0 l pool * held1 l pool) * (s * s)
unfolding shares_for
shares_product l pool pair s pos cover0 cover1 = by_test (s == 0) refl
  where
    a0 : ℕ
    a0 = held0 l pool - pair.r0

    a1 : ℕ
    a1 = held1 l pool - pair.r1

    zero_positive : (k : ℕ) → (k == 0) ≡ true → 0 < k → ⊥
    zero_positive k e p = let none = eqb-true k 0 e in omega arith

    by_test : (b : Bool) → (s == 0) ≡ b
        → (pair.r0 * pair.r1) * ((s + ((if b then root_of (a0 * a1) - FIRST_LOCKED else later_shares_of a0 a1 s pair.r0 pair.r1) + (if b then FIRST_LOCKED else 0)))
        * (s + ((if b then root_of (a0 * a1) - FIRST_LOCKED else later_shares_of a0 a1 s pair.r0 pair.r1) + (if b then FIRST_LOCKED else 0)))) ≤ (held0 l pool * held1 l pool) * (s * s)
    by_test true e = absurd (zero_positive s e pos)
    by_test false e =
        let whole : s + (later_shares_of a0 a1 s pair.r0 pair.r1 + 0) ≡ s + later_shares_of a0 a1 s pair.r0 pair.r1 = omega arith in
        let e0 : pair.r0 + (held0 l pool - pair.r0) ≡ held0 l pool = omega arith in
        let e1 : pair.r1 + (held1 l pool - pair.r1) ≡ held1 l pool = omega arith in
        rw whole (rw (e0, e1) at (later_product s pair.r0 pair.r1 (held0 l pool - pair.r0) (held1 l pool - pair.r1)))

-- what a mint leaves, whatever the ledger
module _ (l : Ledger) (pool : List ℕ) (to : Holder) (made : Made MintReceipt) (is : mint l pool to ≡ Ok made) where
  m : Minted l pool to made.ledger made.answer
  m = mint_minted l pool to made is

  abbrev fee : ℕ
  fee = fee_due l pool m.was

  abbrev s : ℕ
  s = supply l pool + fee

  abbrev n : ℕ
  n = shares_for l pool m.was s

  shared : Shared pool s n (with_fee l pool fee) (minted l pool to fee n)
  shared = shares_shared (with_fee l pool fee) pool to s n

  grown : Grown pool (fee + (n + locked_first s)) l m.mid
  grown = subst (λ (k : Ledger). Grown pool (fee + (n + locked_first s)) l k) (sym m.mid_is)
      (grown_then pool fee (n + locked_first s) l (with_fee l pool fee) (minted l pool to fee n) (fee_grown l pool fee) shared.grown)

  abbrev ending : Ended l pool made.ledger
  ending = record {
    was = m.was;
    found = m.found;
    mid = m.mid;
    only = grown_only pool (fee + (n + locked_first s)) l m.mid grown;
    still = ap (λ (ps : Pairs). pair_of ps pool) grown.rest.pairs ∙ m.found.there;
    now = m.now;
    renewed = m.renewed;
    after = m.after;
  }

  module _ (sound : IsSound l) where
    before : IsSoundPair l pool m.was
    before = sound.pairs pool m.was m.found.there

    covers : IsCovered l pool m.was
    covers = before.covered m.found.free

    same0 : held0 m.mid pool ≡ held0 l pool
    same0 = grown.others (asset0 pool) (holders.Pool pool) (share_not_token pool (pool_token0 pool))

    same1 : held1 m.mid pool ≡ held1 l pool
    same1 = grown.others (asset1 pool) (holders.Pool pool) (share_not_token pool (pool_token1 pool))

    whole : supply m.mid pool ≡ s + (n + locked_first s)
    whole = omega (arith, grown.whole)

    square : supply m.mid pool * supply m.mid pool ≤ held0 m.mid pool * held1 m.mid pool
    square =
        let old = shares_square l pool m.was s covers.first covers.second (fee_due_within l pool m.was before.backed) m.some in
        subst (λ (k : ℕ). k * k ≤ held0 m.mid pool * held1 m.mid pool) (sym whole)
        (subst (λ (k : ℕ). (s + (n + locked_first s)) * (s + (n + locked_first s)) ≤ k * held1 m.mid pool) (sym same0)
        (subst (λ (k : ℕ). (s + (n + locked_first s)) * (s + (n + locked_first s)) ≤ held0 l pool * k) (sym same1) old))

    kept : IsKept m.mid pool
    kept = elim before.kept [
      | inl none ↦ inr (subst (λ (k : Ledger). FIRST_LOCKED ≤ balance k (assets.Share pool) holders.Zero) (sym m.mid_is) (shared.first (omega (arith, no_fee_due l pool m.was none))))
      | inr some ↦ inr (omega (arith, grown.grown (assets.Share pool) holders.Zero))
    ]

    pub mint_sound : IsSound made.ledger
    mint_sound = ended_sound l pool made.ledger ending sound square kept

    product : 0 < s → (m.was.r0 * m.was.r1) * (supply m.mid pool * supply m.mid pool) ≤ (held0 m.mid pool * held1 m.mid pool) * (s * s)
    product pos =
        subst (λ (k : ℕ). (m.was.r0 * m.was.r1) * (k * k) ≤ (held0 m.mid pool * held1 m.mid pool) * (s * s)) (sym whole)
        (subst (λ (k : ℕ). (m.was.r0 * m.was.r1) * ((s + (n + locked_first s)) * (s + (n + locked_first s))) ≤ (k * held1 m.mid pool) * (s * s)) (sym same0)
        (subst (λ (k : ℕ). (m.was.r0 * m.was.r1) * ((s + (n + locked_first s)) * (s + (n + locked_first s))) ≤ (held0 l pool * k) * (s * s)) (sym same1)
        (shares_product l pool m.was s pos covers.first covers.second)))

    pub mint_per_share : PerShareKept l made.ledger pool made.answer.fee_shares
    mint_per_share = subst (λ (k : ℕ). PerShareKept l made.ledger pool k) (sym m.fee) (ended_per_share l pool made.ledger ending sound square fee product)

  pub mint_kept : Kept l made.ledger
  mint_kept = ended_kept l pool made.ledger ending mint_sound
