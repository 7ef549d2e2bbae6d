-- The pools of a ledger, gone over by the names of its pairs.
use Rattle.std.proofs.Common.{◌≡◌, ◌≢◌, ℕ, ◌+◌, ◌<◌, ◌≤◌, zero, suc, Bool, true, false, cond, Some, None, List, [], ◌∷◌, ◌++◌, length, arith, refl, sym, ap, subst, ◌∙◌, get_or, take}
use Rattle.std.specs.Prelude.{◌↔◌, ◌&&◌, ◌^◌, nat_lt, All, AllPairs, Contains, MatchOption, Option, IsSome}
use Rattle.std.specs.List.{filter_map, cons_option, IsDistinct}
use Rattle.std.specs.List.Sorted.{IsSorted, IsPermutation}
use Rattle.std.specs.Map.{keys_of}
use Rattle.std.specs.declared.cmp.Ordering.{Ordering}
use Rattle.std.specs.declared.cmp.Ordering.TheVariants.{Less, Equal, Greater}
use Rattle.std.specs.Ordering.{nat_cmp, is_lt, ordering_reverse}
use Rattle.std.specs.Cmp.Lexicographic.{slice_cmp, nat_list_cmp_total}
use Rattle.std.proofs.lemmas.Bool.{ltb-true, lt-ltb}
use Rattle.std.proofs.lemmas.Cmp.{nat_list_eq_equiv}
use Rattle.std.proofs.lemmas.List.{take_all, take_more}
use Rattle.std.proofs.lemmas.List.Elements.{Contains-get_or, filter_map-append}
use Rattle.std.proofs.lemmas.List.Kept.{AllPairs-cons}
use Rattle.std.proofs.lemmas.List.Sorted.{Contains-permutation, IsPermutation-sym}
use Rattle.std.proofs.lemmas.Map.Keys.{IsDistinct-IsPermutation}
use Rattle.std.proofs.lemmas.Map.Lookups.{exact_bytes}
use Rattle.std.proofs.lemmas.Map.Made.{AllPairs-from_IsDistinct}
use Rattle.std.proofs.lemmas.Map.Views.{Contains-keys_from_lookup}
use Rattle.std.proofs.lemmas.Slice.Eq.{bytes_eq-Decides}
use Rattle.amm_names.specs.declared.holder.Holder.TheVariants as holder
use Rattle.amm_model.specs.declared.pair.PairRecord.{PairRecord}
use Rattle.amm_model.specs.declared.problem.Part.{Part}
use Rattle.amm_model.specs.declared.problem.ProblemPool.{ProblemPool}
use Rattle.amm_model.specs.declared.limits.TheConstants.{PART_LIMIT}
use Rattle.amm_model.specs.Ledger.{Ledger, pair_of}
use Rattle.amm_model.specs.Market.{IsOpenProblemIn, IsPoolIn, pool_at}
use Rattle.amm_model.specs.Pools.{asset0, asset1, same_name}
use Rattle.amm_model.specs.Routing.{AreOpenParts, HasBalances, HasReserves, IsBefore, IsOpenProblemOf, OpenView}
use Rattle.amm_names.specs.Names.{Name}
use Rattle.amm_model.specs.Sound.{IsAtRest}
use Rattle.amm_model.proofs.LedgerLemmas.{balance_within_total}
use Rattle.amm_model.proofs.Names.{same_name_is}
use Rattle.amm_model.proofs.Problems.{less-before, pairs_before}
use Rattle.amm_graph.specs.Markets.{is_filled, pool_in, pool_with}
use Rattle.amm_graph.proofs.Lists.{AllPairs-none, AllPairs-tail}

-- ---- names in order

-- what does not come after another and differs from it comes before it
before-next : (a b : Name) → is_lt (slice_cmp nat_cmp b a) ≡ false → a ≢ b → IsBefore a b
before-next a b past apart = pick (slice_cmp nat_cmp b a) refl past
  where
    pick : (o : Ordering) → slice_cmp nat_cmp b a ≡ o → is_lt o ≡ false → IsBefore a b
    pick Less is e = absurd cc
    pick Equal is e = absurd (apart (sym (exact_bytes b a is)))
    pick Greater is e = less-before a b (nat_list_cmp_total.antisymm a b ∙ ap ordering_reverse is)

-- names that differ ascend once they are sorted
pub sorted_names : (names sorted : List Name) → IsPermutation names sorted → IsSorted (slice_cmp nat_cmp) sorted → IsDistinct same_name names → AllPairs IsBefore sorted
sorted_names names sorted moved rises apart =
    let differ = AllPairs-from_IsDistinct bytes_eq-Decides sorted (IsDistinct-IsPermutation same_name nat_list_eq_equiv.symm names sorted moved apart) in
    pairs_before (λ (n : Name). n) sorted (λ k d below. before-next _ _ (rises k d (omega arith) below) (differ k (k + 1) d (omega arith) below))

pub same_names : (names sorted : List Name) → IsPermutation names sorted → (name : Name) → Contains sorted name ↔ Contains names name
same_names names sorted moved name =
    (Contains-permutation sorted names name (IsPermutation-sym names sorted moved), Contains-permutation names sorted name moved)

-- what a loop over all of a list has gathered
pub gathered : {X : Type 0} (found all : List X) (n : ℕ) → found ≡ take n all → length all ≤ n → found ≡ all
gathered found all n is past = is ∙ take_all n all past

-- ---- what is kept of a list

kept : {X Y : Type 0} (h : X → Option Y) (xs : List X) (x : X) (y : Y) → Contains xs x → h x ≡ Some y → Contains (filter_map h xs) y
kept h [] x y (k, below, is) gives = absurd (omega arith)
kept {X} {Y} h (z ∷ zs) x y (zero, below, is) gives =
    subst (λ (o : Option Y). Contains (cons_option o (filter_map h zs)) y) (sym (ap h is ∙ gives)) (0, omega arith, refl)
kept {X} {Y} h (z ∷ zs) x y (suc k, below, is) gives = later (h z) (kept h zs x y (k, omega arith, is) gives)
  where
    later : (o : Option Y) → Contains (filter_map h zs) y → Contains (cons_option o (filter_map h zs)) y
    later None has = has
    later (Some w) (i, within, same) = (suc i, omega arith, same)

-- what was kept came of something in the list
record Comes {X Y : Type 0} (h : X → Option Y) (xs : List X) (y : Y) : Type 0 where
  of : X
  there : Contains xs of
  gives : h of ≡ Some y

come : {X Y : Type 0} (h : X → Option Y) (xs : List X) (y : Y) → Contains (filter_map h xs) y → Comes h xs y
come h [] y (k, below, is) = absurd (omega arith)
come {X} {Y} h (z ∷ zs) y has = pick (h z) refl (come h zs y) has
  where
    later : Comes h zs y → Comes h (z ∷ zs) y
    later c = record { of = c.of; there = further c.there; gives = c.gives }
      where
        further : {x : X} → Contains zs x → Contains (z ∷ zs) x
        further (k, below, is) = (suc k, omega arith, is)

    pick : (o : Option Y) → h z ≡ o → (Contains (filter_map h zs) y → Comes h zs y) → Contains (cons_option o (filter_map h zs)) y → Comes h (z ∷ zs) y
    pick None e rest has = later (rest has)
    pick (Some w) e rest (zero, below, is) = record { of = z; there = (0, omega arith, refl); gives = e ∙ ap Some is }
    pick (Some w) e rest (suc k, below, is) = later (rest (k, omega arith, is))

pub fewer : {X Y : Type 0} (h : X → Option Y) (xs : List X) → length (filter_map h xs) ≤ length xs
fewer h [] = omega arith
fewer {X} {Y} h (x ∷ xs) = pick (h x) (fewer h xs)
  where
    pick : (o : Option Y) → length (filter_map h xs) ≤ length xs → length (cons_option o (filter_map h xs)) ≤ length (x ∷ xs)
    pick None rest = omega arith
    pick (Some y) rest = omega arith

-- ---- the pools

-- the pool of a name, by whether its pair is filled
with-is : (ledger : Ledger) (name : Name) (pair : PairRecord) (pool : ProblemPool) (b : Bool) → cond b (Some (pool_at ledger name pair)) None ≡ Some pool → (b ≡ true) × (pool ≡ pool_at ledger name pair)
with-is ledger name pair pool true e = (refl, sym cc)
with-is ledger name pair pool false e = absurd cc

filled-is : (a b : Bool) → (a && b) ≡ true → (a ≡ true) × (b ≡ true)
filled-is true b e = (refl, e)
filled-is false b e = absurd cc

pool_in-named : (ledger : Ledger) (name : Name) (pool : ProblemPool) → pool_in ledger name ≡ Some pool → (pool.name ≡ name) × IsPoolIn ledger pool
pool_in-named ledger name pool e = pick (pair_of ledger.pairs name) refl e
  where
    pick : (o : Option PairRecord) → pair_of ledger.pairs name ≡ o → pool_with ledger name o ≡ Some pool → (pool.name ≡ name) × IsPoolIn ledger pool
    pick None there e = absurd cc
    pick (Some pair) there e =
        let found = with-is ledger name pair pool (is_filled pair) e in
        let named : pool.name ≡ name = ap (λ (p : ProblemPool). p.name) found.1 in
        let positive = filled-is (nat_lt 0 pair.r0) (nat_lt 0 pair.r1) found.0 in (
          named,
          record {
            pair = pair;
            there = ap (pair_of ledger.pairs) named ∙ there;
            filled = (ltb-true 0 pair.r0 positive.0, ltb-true 0 pair.r1 positive.1);
            as_kept = found.1 ∙ ap (λ (n : Name). pool_at ledger n pair) (sym named);
          },
        )

is-pool_in : (ledger : Ledger) (pool : ProblemPool) → IsPoolIn ledger pool → pool_in ledger pool.name ≡ Some pool
is-pool_in ledger pool is =
    ap (pool_with ledger pool.name) is.there
    ∙ ap (λ (b : Bool). cond b (Some (pool_at ledger pool.name is.pair)) None) (both (nat_lt 0 is.pair.r0) (nat_lt 0 is.pair.r1) (above is.filled.0) (above is.filled.1))
    ∙ ap Some (sym is.as_kept)
  where
    above : {n : ℕ} → 1 ≤ n → nat_lt 0 n ≡ true
    above {n} positive = lt-ltb 0 n (omega arith)

    both : (a b : Bool) → a ≡ true → b ≡ true → (a && b) ≡ true
    both true true e f = refl
    both true false e f = f
    both false b e f = e

-- the pools of the names of all pairs are those that a route may use
pub pools_in-are : (ledger : Ledger) (names : List Name) → ((name : Name) → Contains names name ↔ Contains (keys_of ledger.pairs) name) →
    (pool : ProblemPool) → Contains (filter_map (pool_in ledger) names) pool ↔ IsPoolIn ledger pool
pools_in-are ledger names are pool = (to, back)
  where
    to : Contains (filter_map (pool_in ledger) names) pool → IsPoolIn ledger pool
    to has = let c = come (pool_in ledger) names pool has in (pool_in-named ledger c.of pool c.gives).1

    back : IsPoolIn ledger pool → Contains (filter_map (pool_in ledger) names) pool
    back is =
        let key = Contains-keys_from_lookup same_name_is pool.name ledger.pairs (rw is.there refl) in
        kept (pool_in ledger) names pool.name pool ((are pool.name).1 key) (is-pool_in ledger pool is)

-- and they are in the order of the names
pub pools_in-rise : (ledger : Ledger) (names : List Name) → AllPairs IsBefore names → AllPairs (λ (a b : ProblemPool). IsBefore a.name b.name) (filter_map (pool_in ledger) names)
pools_in-rise ledger [] up = AllPairs-none (λ (a b : ProblemPool). IsBefore a.name b.name)
pools_in-rise ledger (name ∷ names) up = pick (pool_in ledger name) refl (pools_in-rise ledger names (AllPairs-tail IsBefore name names up))
  where
    Rise : List ProblemPool → Type 0
    Rise pools = AllPairs (λ (a b : ProblemPool). IsBefore a.name b.name) pools

    later : (other : Name) → Contains names other → IsBefore name other
    later other (k, below, is) = subst (λ (n : Name). IsBefore name n) is (up 0 (suc k) other (omega arith) (omega arith))

    first : (pool q : ProblemPool) → pool_in ledger name ≡ Some pool → Contains (filter_map (pool_in ledger) names) q → IsBefore pool.name q.name
    first pool q gives has =
        let c = come (pool_in ledger) names q has in
        subst (λ (n : Name). IsBefore n q.name) (sym (pool_in-named ledger name pool gives).0)
        (subst (λ (n : Name). IsBefore name n) (sym (pool_in-named ledger c.of q c.gives).0) (later c.of c.there))

    pick : (o : Option ProblemPool) → pool_in ledger name ≡ o → Rise (filter_map (pool_in ledger) names) → Rise (cons_option o (filter_map (pool_in ledger) names))
    pick None e rest = rest
    pick (Some pool) e rest =
        AllPairs-cons (λ (a b : ProblemPool). IsBefore a.name b.name) pool (filter_map (pool_in ledger) names)
        (λ k d below. first pool (get_or (filter_map (pool_in ledger) names) k d) e (Contains-get_or (filter_map (pool_in ledger) names) k d below)) rest

-- ---- what a ledger at rest makes of them

pool_fits : (ledger : Ledger) → IsAtRest ledger → (pool : ProblemPool) → IsPoolIn ledger pool → HasReserves pool × HasBalances pool
pool_fits ledger rest pool is =
    let sound = rest.sound.pairs pool.name is.pair is.there in
    let covered = sound.covered (rest.unlocked pool.name is.pair is.there) in
    let within0 = balance_within_total ledger (asset0 pool.name) (holder.Pool pool.name) in
    let within1 = balance_within_total ledger (asset1 pool.name) (holder.Pool pool.name) in
    let limit0 = rest.sound.totals (asset0 pool.name) in
    let limit1 = rest.sound.totals (asset1 pool.name) in
    subst (λ (p : ProblemPool). HasReserves p × HasBalances p) (sym is.as_kept)
    ((is.filled.0, omega (arith, sound.small.r0), is.filled.1, omega (arith, sound.small.r1)), (covered.first, omega arith, covered.second, omega arith))

-- a problem can be made of them and of parts that are in order
pub parts_fit : (ledger : Ledger) → IsAtRest ledger → (parts : List Part) (t : Name) (pools : List ProblemPool) → length parts ≤ PART_LIMIT →
    AllPairs (λ (a b : Part). IsBefore a.token b.token) parts → All (λ (part : Part). part.token ≢ t) parts → All (λ (part : Part). (1 ≤ part.amount) × (part.amount < 2 ^ 52)) parts →
    ((pool : ProblemPool) → Contains pools pool ↔ IsPoolIn ledger pool) → AllPairs (λ (a b : ProblemPool). IsBefore a.name b.name) pools → length pools ≤ length ledger.pairs →
    AreOpenParts parts t pools
parts_fit ledger rest parts t pools few rising apart amounts are names count = record {
  few_parts = few;
  rising = rising;
  apart = apart;
  amounts = amounts;
  few = omega (arith, count, rest.sound.count);
  names = names;
  reserves = λ k d below. (fits k d below).0;
  balances = λ k d below. (fits k d below).1;
}
  where
    fits : (k : ℕ) (d : ProblemPool) → k < length pools → HasReserves (get_or pools k d) × HasBalances (get_or pools k d)
    fits k d below = pool_fits ledger rest (get_or pools k d) ((are (get_or pools k d)).0 (Contains-get_or pools k d below))

-- the problem made of them is the ledger's
pub market_of : (ledger : Ledger) (parts : List Part) (t : Name) (pools : List ProblemPool) (problem : OpenView) → ((pool : ProblemPool) → Contains pools pool ↔ IsPoolIn ledger pool) →
    IsOpenProblemOf parts t pools problem → IsOpenProblemIn ledger parts t problem
market_of ledger parts t pools problem are of = record {
  sound = record { sources = of.sources; target = of.target; over = refl; sound = of.sound };
  pools = λ pool. subst (λ (ps : List ProblemPool). Contains ps pool ↔ IsPoolIn ledger pool) (sym of.over) (are pool);
}

-- what was made of parts that fit is there
pub some_made : {X : Type 0} (Fit : Type 0) (Is : X → Type 0) (made : Option X) → MatchOption made (Fit → ⊥) Is → Fit → IsSome made
some_made Fit Is None refused fits = absurd (refused fits)
some_made Fit Is (Some x) is fits = refl

-- the pools of one name more
pub filter_map-more : {X Y : Type 0} (h : X → Option Y) (xs : List X) (i : ℕ) (d : X) → i < length xs →
    filter_map h (take (i + 1) xs) ≡ filter_map h (take i xs) ++ cons_option (h (get_or xs i d)) []
filter_map-more h xs i d below = ap (filter_map h) (take_more xs i d below) ∙ filter_map-append h (take i xs) (get_or xs i d ∷ [])

-- the pools of a ledger that is another's
pub pools_here : (ledger state : Ledger) (names : List Name) (pools : List ProblemPool) → ledger ≡ state → pools ≡ filter_map (pool_in ledger) names →
    ((name : Name) → Contains names name ↔ Contains (keys_of ledger.pairs) name) → (pool : ProblemPool) → Contains pools pool ↔ IsPoolIn state pool
pools_here ledger state names pools same are names-are pool =
    subst (λ (l : Ledger). Contains pools pool ↔ IsPoolIn l pool) same
    (subst (λ (ps : List ProblemPool). Contains ps pool ↔ IsPoolIn ledger pool) (sym are) (pools_in-are ledger names names-are pool))
