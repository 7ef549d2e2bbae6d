-- A new pair with nothing in it keeps a ledger sound.
use Rattle.std.proofs.Common.{◌≡◌, ◌<◌, ◌++◌, ◌∷◌, [], ℕ, ◌==◌, nat_le, Bool, true, false, cond, ◌||◌, List, length, Option, Some, None, Ok, IsSome, ◌⊎◌, inl, inr, refl, sym, ap, ◌∙◌, subst, arith, length-append}
use Rattle.std.specs.Map.{keys_of, values_of}
use Rattle.std.specs.List.{IsDistinct, list_any}
use Rattle.std.specs.Cmp.Lexicographic.{nat_list_eq_equiv}
use Rattle.std.proofs.lemmas.Map.Keys.{IsDistinct-push}
use Rattle.std.proofs.lemmas.Bool.{eqb-true, false≢true}
use Rattle.std.proofs.lemmas.Bool.Decides.{nat_tests}
use Rattle.amm_names.specs.declared.holder.Asset.{Asset}
use Rattle.amm_names.specs.declared.holder.Asset.TheVariants as assets
use Rattle.amm_names.specs.Pools.{pool_token0, pool_token1}
use Rattle.amm_model.specs.declared.pair.PairRecord.{PairRecord}
use Rattle.amm_model.specs.declared.fault.Refusal.TheVariants as code
use Rattle.amm_model.specs.Ledger.{Ledger, Pairs, is_listed, pair_of, zero_pair}
use Rattle.amm_model.specs.Outcome.{Made, ledger_only}
use Rattle.amm_model.specs.Postings.{add_pair}
use Rattle.amm_model.specs.declared.limits.TheConstants.{PAIR_LIMIT}
use Rattle.amm_model.specs.Pools.{supply, same_name}
use Rattle.amm_model.specs.Formulas.{IsBacked}
use Rattle.amm_model.specs.Sound.{IsSoundPair, IsKnown, IsSound}
use Rattle.amm_model.proofs.Guards.{past_refusal, same_answer}
use Rattle.amm_model.proofs.Names.{same_name_is, some_there}

-- a pair that was there keeps its record
pub found_before : (pairs : Pairs) (pool : List ℕ) (pair : PairRecord) (q : List ℕ) (x : PairRecord) → pair_of pairs q ≡ Some x → pair_of (pairs ++ (pool, pair) ∷ []) q ≡ Some x
found_before [] pool pair q x is = cc
found_before (e ∷ pairs) pool pair q x is =
    elim (same_name q e.0) as (λ b. cond b (Some e.1) (pair_of pairs q) ≡ Some x → cond b (Some e.1) (pair_of (pairs ++ (pool, pair) ∷ []) q) ≡ Some x) [
      | true ↦ λ here. here
      | false ↦ λ there. found_before pairs pool pair q x there
    ] is

-- and another name has the new record, or none
pub found_last : (pairs : Pairs) (pool : List ℕ) (pair : PairRecord) (q : List ℕ) → pair_of pairs q ≡ None → pair_of (pairs ++ (pool, pair) ∷ []) q ≡ cond (same_name q pool) (Some pair) None
found_last [] pool pair q is = refl
found_last (e ∷ pairs) pool pair q is =
    elim (same_name q e.0) as (λ b. cond b (Some e.1) (pair_of pairs q) ≡ None → cond b (Some e.1) (pair_of (pairs ++ (pool, pair) ∷ []) q) ≡ cond (same_name q pool) (Some pair) None) [
      | true ↦ λ here. cc
      | false ↦ λ there. found_last pairs pool pair q there
    ] is

keys_last : (pairs : Pairs) (pool : List ℕ) (pair : PairRecord) → keys_of (pairs ++ (pool, pair) ∷ []) ≡ keys_of pairs ++ pool ∷ []
keys_last [] pool pair = refl
keys_last (e ∷ pairs) pool pair = ap (λ (ks : List (List ℕ)). e.0 ∷ ks) (keys_last pairs pool pair)

not_among : (pairs : Pairs) (pool : List ℕ) → pair_of pairs pool ≡ None → list_any (same_name pool) (keys_of pairs) ≡ false
not_among [] pool is = refl
not_among (e ∷ pairs) pool is =
    elim (same_name pool e.0) as (λ b. cond b (Some e.1) (pair_of pairs pool) ≡ None → (b || list_any (same_name pool) (keys_of pairs)) ≡ false) [
      | true ↦ λ here. cc
      | false ↦ λ there. not_among pairs pool there
    ] is

-- a pool that is not there has no shares
no_shares : (l : Ledger) (pool : List ℕ) → IsSound l → pair_of l.pairs pool ≡ None → supply l pool ≡ 0
no_shares l pool sound absent = elim (supply l pool == 0) as (λ b. (supply l pool == 0) ≡ b → supply l pool ≡ 0) [
  | true ↦ λ e. eqb-true (supply l pool) 0 e
  | false ↦ λ e. absurd (false≢true (subst (λ (o : Option PairRecord). IsSome o) absent (sound.known (assets.Share pool) (λ none. let both : (0 == 0) ≡ false = subst (λ (s : ℕ). (s == 0) ≡ false) none e in cc))))
] refl

abbrev pub one_more_pair : Ledger → List ℕ → Ledger
one_more_pair l pool = record l { pairs = l.pairs ++ (pool, zero_pair) ∷ [] }

-- each pair stays
pub pair_stays : (l : Ledger) (pool q : List ℕ) → IsSome (pair_of l.pairs q) → IsSome (pair_of (one_more_pair l pool).pairs q)
pair_stays l pool q is = elim (pair_of l.pairs q) as (λ o. pair_of l.pairs q ≡ o → IsSome o → IsSome (pair_of (one_more_pair l pool).pairs q)) [
  | Some x ↦ λ was there. some_there (pair_of (one_more_pair l pool).pairs q) x (found_before l.pairs pool zero_pair q x was)
  | None ↦ λ was there. absurd (false≢true there)
] refl is

-- the pair is there as it is created, and each other as it was
pub pair_cases : (l : Ledger) (pool q : List ℕ) (pair : PairRecord) → pair_of l.pairs pool ≡ None → pair_of (one_more_pair l pool).pairs q ≡ Some pair
    → (pair_of l.pairs q ≡ Some pair) ⊎ ((q ≡ pool) × (pair ≡ zero_pair))
pair_cases l pool q pair absent is = elim (pair_of l.pairs q) as (λ o. pair_of l.pairs q ≡ o → (pair_of l.pairs q ≡ Some pair) ⊎ ((q ≡ pool) × (pair ≡ zero_pair))) [
  | Some x ↦ λ was. inl (was ∙ sym (found_before l.pairs pool zero_pair q x was) ∙ is)
  | None ↦ λ was. inr (new (same_name q pool) refl (sym (found_last l.pairs pool zero_pair q was) ∙ is))
] refl
  where
    new : (b : Bool) → same_name q pool ≡ b → cond b (Some zero_pair) None ≡ Some pair → (q ≡ pool) × (pair ≡ zero_pair)
    new true e gives = (same_name_is q pool e, cc)
    new false e gives = cc

module _ (old : Ledger) (pool : List ℕ) (sound : IsSound old) (absent : pair_of old.pairs pool ≡ None)
    (first : is_listed old.tokens (pool_token0 pool) ≡ true) (second : is_listed old.tokens (pool_token1 pool) ≡ true) (room : length old.pairs < PAIR_LIMIT) where
  as_before : (q : List ℕ) (pair : PairRecord) → IsSoundPair old q pair → IsSoundPair (one_more_pair old pool) q pair
  as_before q pair was = record {
    listed = was.listed;
    small = was.small;
    covered = λ free. record { first = (was.covered free).first; second = (was.covered free).second };
    backed = was.backed;
    kept = was.kept;
  }

  as_created : IsSoundPair (one_more_pair old pool) pool zero_pair
  as_created = let none = no_shares old pool sound absent in record {
    listed = (first, second);
    small = record { r0 = omega arith; r1 = omega arith; last = omega arith; acc0 = omega arith; acc1 = omega arith };
    covered = λ free. record { first = omega arith; second = omega arith };
    backed = subst (λ (n : ℕ). IsBacked n 0 0 0) (sym none) record { backed = omega arith; kept = λ some. absurd (some refl) };
    kept = inl none;
  }

  still_known : (q : Asset) → IsKnown old q → IsKnown (one_more_pair old pool) q
  still_known (assets.Token name) is = is
  still_known (assets.Share other) is = pair_stays old pool other is

  pub one_more_pair_sound : IsSound (one_more_pair old pool)
  one_more_pair_sound = record {
    pairs = λ q pair is. elim (pair_cases old pool q pair absent is) [
      | inl was ↦ as_before q pair (sound.pairs q pair was)
      | inr new ↦ subst (λ (k : List ℕ). IsSoundPair (one_more_pair old pool) k pair) (sym new.0) (subst (λ (p : PairRecord). IsSoundPair (one_more_pair old pool) pool p) (sym new.1) as_created)
    ];
    names = subst (λ (ks : List (List ℕ)). IsDistinct same_name ks) (sym (keys_last old.pairs pool zero_pair)) (IsDistinct-push nat_list_eq_equiv (keys_of old.pairs) pool sound.names (not_among old.pairs pool absent));
    totals = sound.totals;
    known = λ q some. still_known q (sound.known q some);
    tokens = sound.tokens;
    count = omega (arith, length-append old.pairs ((pool, zero_pair) ∷ []));
    time = sound.time;
    quotes = sound.quotes;
    answers = sound.answers;
    observations = sound.observations;
  }

module _ (old : Ledger) (pool : List ℕ) (made : Made (Unit {0})) (is : add_pair old pool ≡ Ok made) where
  -- what an accepted call leaves
  pub add_pair_made : (length old.pairs < PAIR_LIMIT) × (made.ledger ≡ one_more_pair old pool)
  add_pair_made =
      let past = past_refusal (nat_le PAIR_LIMIT (length old.pairs)) code.PairLimit (ledger_only (one_more_pair old pool)) made is in
      let told : nat_le PAIR_LIMIT (length old.pairs) ≡ false = past.0 in
      let room : length old.pairs < PAIR_LIMIT = grind (arith, nat_tests) in
      (room, sym (ap (λ (k : Made (Unit {0})). k.ledger) (same_answer (record { ledger = one_more_pair old pool; answer = tt }) made past.1)))

  module _ (absent : pair_of old.pairs pool ≡ None) (first : is_listed old.tokens (pool_token0 pool) ≡ true) (second : is_listed old.tokens (pool_token1 pool) ≡ true) where
    pub add_pair_sound : IsSound old → IsSound made.ledger
    add_pair_sound sound = subst IsSound (sym add_pair_made.1) (one_more_pair_sound old pool sound absent first second add_pair_made.0)

-- where no pair of the list is locked, none is that is found in it
pub none_locked : (pairs : Pairs) → list_any (λ pair. pair.locked) (values_of pairs) ≡ false → (pool : List ℕ) (pair : PairRecord) → pair_of pairs pool ≡ Some pair → pair.locked ≡ false
none_locked [] free pool pair is = cc
none_locked (e ∷ pairs) free pool pair is =
    elim (e.1.locked) as (λ b. e.1.locked ≡ b → (b || list_any (λ p. p.locked) (values_of pairs)) ≡ false → pair.locked ≡ false) [
      | true ↦ λ here all. cc
      | false ↦ λ here all. elim (same_name pool e.0) as (λ b. cond b (Some e.1) (pair_of pairs pool) ≡ Some pair → pair.locked ≡ false) [
        | true ↦ λ found. ap (λ (p : PairRecord). p.locked) (let same : pair ≡ e.1 = cc in same) ∙ here
        | false ↦ λ found. none_locked pairs all pool pair found
      ] is
    ] refl free
