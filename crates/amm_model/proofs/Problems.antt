-- Names in order, and what follows for the tokens of a problem.
use Rattle.std.proofs.Common.{◌≡◌, ◌≢◌, ◌⊎◌, ℕ, ◌+◌, ◌-◌, ◌*◌, ◌<◌, ◌≤◌, inl, inr, zero, suc, Bool, true, false, cond, nat_eq, ◌&&◌, List, [], ◌∷◌, ◌++◌, length, take, get_or, map, arith, refl, sym, ap, subst, ◌∙◌}
use Rattle.std.specs.Prelude.{◌↔◌, ◌==◌, codes, AllPairs, All, Contains, IsTrue}
use Rattle.std.specs.declared.cmp.Ordering.{Ordering}
use Rattle.std.specs.declared.cmp.Ordering.TheVariants.{Less, Equal, Greater}
use Rattle.std.specs.Ordering.{nat_cmp, is_lt, is_ge, ordering_reverse}
use Rattle.std.specs.Str.{bytes_eq}
use Rattle.std.specs.Cmp.Lexicographic.{slice_cmp, nat_list_cmp_total, nat_list_eq_equiv, texts_ties}
use Rattle.std.specs.List.{after_first, dedup}
use Rattle.std.specs.List.Sorted.{IsSorted, IsPermutation, IsStrictlySortedBy}
use Rattle.std.proofs.lemmas.List.Elements.{All-from_recursion, All-tail, Contains-append_left, Contains-append_right}
use Rattle.std.proofs.lemmas.List.Kept.{AllPairs-cons, Contains-dedup, Contains-from_dedup, IsStrictlySortedBy-dedup}
use Rattle.std.proofs.lemmas.List.Sorted.{Contains-permutation, IsPermutation-sym}
use Rattle.std.proofs.lemmas.List.Sums.{fails_before_first, passes_at_first}
use Rattle.std.proofs.lemmas.Bool.Decides.{nat_tests}
use Rattle.std.specs.Cmp.{both_ways}
use Rattle.std.proofs.lemmas.Bool.{cases_lt, true≢false}
use Rattle.std.proofs.lemmas.Map.Keys.{IsDistinct-from_apart}
use Rattle.std.proofs.lemmas.Map.Made.{is_member-Decides, length-le_from_is_member}
use Rattle.std.proofs.lemmas.List.{get_or-map, length-append}
use Rattle.std.proofs.Math.ListN.{length-map}
use Rattle.std.proofs.lemmas.Slice.Eq.{bytes_eq-Decides}
use Rattle.amm_model.specs.declared.problem.TokenPlaces.{TokenPlaces}
use Rattle.amm_model.specs.declared.problem.Part.{Part}
use Rattle.amm_model.specs.declared.problem.ProblemPool.{ProblemPool}
use Rattle.amm_names.specs.Pools.{is_pool_name, fee_of_digits, pool_fee}
use Rattle.amm_model.specs.Swap.{IsFee}
use Rattle.amm_model.specs.Routing.{OpenView, ProblemView, IsOpenProblem, IsOpenProblemOf, IsProblemOf, IsBefore, fee_of, given_by_parts, one_part, open_view, part_place, token0_of, token1_of, tokens_of_pools, tokens_named, token_place, places_of, no_pool}
use Rattle.amm_names.specs.Names.{Name}

pub before-less : (a b : Name) → IsBefore a b → slice_cmp nat_cmp a b ≡ Less
before-less a b before = pick (slice_cmp nat_cmp a b) before
  where
    pick : (o : Ordering) → is_lt o ≡ true → o ≡ Less
    pick Less e = refl
    pick Equal e = cc
    pick Greater e = cc

pub less-before : (a b : Name) → slice_cmp nat_cmp a b ≡ Less → IsBefore a b
less-before a b e = ap is_lt e

pub not_before : (a b : Name) → is_ge (slice_cmp nat_cmp a b) ≡ true → IsBefore a b → ⊥
not_before a b past before = pick (slice_cmp nat_cmp a b) past before
  where
    pick : (o : Ordering) → is_ge o ≡ true → is_lt o ≡ true → ⊥
    pick Less p e = cc
    pick Equal p e = cc
    pick Greater p e = cc

pub before-trans : (a b c : Name) → IsBefore a b → IsBefore b c → IsBefore a c
before-trans a b c ab bc = less-before a c (nat_list_cmp_total.trans a b c (before-less a b ab) (before-less b c bc))

-- no name is before itself
pub before-apart : (a b : Name) → IsBefore a b → a ≢ b
before-apart a b before e = pick (slice_cmp nat_cmp a a) (nat_list_cmp_total.antisymm a a) (before-less a a (subst (λ (n : Name). IsBefore a n) (sym e) before))
  where
    pick : (o : Ordering) → o ≡ ordering_reverse o → o ≡ Less → ⊥
    pick Less e l = cc
    pick Equal e l = cc
    pick Greater e l = cc

-- each before the next, so each before all later ones
pub pairs_before : {X : Type 0} (name : X → Name) (xs : List X) →
    ((k : ℕ) (d : X) → k + 1 < length xs → IsBefore (name (get_or xs k d)) (name (get_or xs (k + 1) d))) →
    AllPairs (λ (a b : X). IsBefore (name a) (name b)) xs
pairs_before {X} name xs next i j d ij below = far (j - (i + 1)) i j (omega arith) below
  where
    far : (n i j : ℕ) → i + 1 + n ≡ j → j < length xs → IsBefore (name (get_or xs i d)) (name (get_or xs j d))
    far zero i j e below =
        let last : i + 1 ≡ j = omega arith in
        subst (λ (k : ℕ). IsBefore (name (get_or xs i d)) (name (get_or xs k d))) last (next i d (omega arith))
    far (suc n) i j e below =
        before-trans _ (name (get_or xs (i + 1) d)) _ (next i d (omega arith)) (far n (i + 1) j (omega arith) below)

-- the tokens of one pool more
pub tokens_of_pools-more : (pools : List ProblemPool) (i : ℕ) (d : ProblemPool) → i < length pools →
    tokens_of_pools (take (suc i) pools) ≡ (tokens_of_pools (take i pools) ++ token0_of (get_or pools i d) ∷ []) ++ token1_of (get_or pools i d) ∷ []
tokens_of_pools-more [] i d below = absurd (omega arith)
tokens_of_pools-more (pool ∷ pools) zero d below = refl
tokens_of_pools-more (pool ∷ pools) (suc i) d below = ap (λ (l : List Name). token0_of pool ∷ token1_of pool ∷ l) (tokens_of_pools-more pools i d (omega arith))

pairs_from_strict : (xs : List Name) → IsStrictlySortedBy (slice_cmp nat_cmp) xs → AllPairs IsBefore xs
unfolding IsStrictlySortedBy
pairs_from_strict [] rises = λ i j d ij below. absurd (omega arith)
pairs_from_strict (x ∷ xs) rises =
    let first = All-from_recursion (λ (y : Name). slice_cmp nat_cmp x y ≡ Less) xs rises.0 in
    AllPairs-cons IsBefore x xs (λ k d below. less-before x (get_or xs k d) (first k d below)) (pairs_from_strict xs rises.1)

-- a sorted list without repetitions: each name before all later ones
pub tokens_ascend : (xs ys : List Name) → IsSorted (slice_cmp nat_cmp) xs → ys ≡ dedup bytes_eq xs → AllPairs IsBefore ys
tokens_ascend xs ys sorted is = subst (λ (l : List Name). AllPairs IsBefore l) (sym is) (pairs_from_strict _ (IsStrictlySortedBy-dedup nat_list_cmp_total texts_ties xs sorted))

-- and it has the names of the list
pub tokens_kept : (named xs ys : List Name) → IsPermutation named xs → ys ≡ dedup bytes_eq xs → (token : Name) → Contains ys token ↔ Contains named token
tokens_kept named xs ys moved is token = (
  λ has. Contains-permutation xs named token (IsPermutation-sym named xs moved) (Contains-from_dedup bytes_eq xs token (subst (λ (l : List Name). Contains l token) is has)),
  λ has. subst (λ (l : List Name). Contains l token) (sym is) (Contains-dedup nat_list_eq_equiv (λ x y e. (bytes_eq-Decides x y).0 e) xs token (Contains-permutation named xs token moved has)),
)

-- ---- what the tokens of a problem are

pub once_tokens : (problem : OpenView) → IsOpenProblem problem → AllPairs (λ (a b : Name). a ≢ b) problem.tokens
once_tokens problem sound i j d ij below = before-apart _ _ (sound.ascending i j d ij below)

-- a token of the list has a place in it
pub place-lt_from_Contains : (tokens : List Name) (name : Name) → Contains tokens name → token_place tokens name < length tokens
place-lt_from_Contains tokens name (k, below, is) = pick (cases_lt (token_place tokens name) (length tokens))
  where
    pick : (token_place tokens name < length tokens) ⊎ (length tokens ≤ token_place tokens name) → token_place tokens name < length tokens
    pick (inl lt) = lt
    pick (inr past) =
        let fails = fails_before_first (bytes_eq name) tokens k name (omega arith) in
        let passes = (bytes_eq-Decides name (get_or tokens k name)).1 (sym is) in
        absurd (true≢false (sym passes ∙ fails))

abbrev pub no_part : Part
no_part = record { token = []; amount = 0 }

pub parts_there : (problem : OpenView) → IsOpenProblem problem → All (λ (part : Part). token_place problem.tokens part.token < length problem.tokens) problem.parts
parts_there problem sound k d below =
    place-lt_from_Contains problem.tokens (get_or problem.parts k d).token
    ((sound.tokens (get_or problem.parts k d).token).1 (later (Contains-append_left (map (λ (part : Part). part.token) problem.parts) (tokens_of_pools problem.pools) (get_or problem.parts k d).token
    (k, rw length-map below, get_or-map (λ (part : Part). part.token) problem.parts k d (get_or problem.parts k d).token below))))
  where
    later : {x : Name} → Contains (map (λ (part : Part). part.token) problem.parts ++ tokens_of_pools problem.pools) x → Contains (tokens_named problem.parts problem.t problem.pools) x
    later (i, within, is) = (suc i, omega arith, is)

pub target_there : (problem : OpenView) → IsOpenProblem problem → token_place problem.tokens problem.t < length problem.tokens
target_there problem sound = place-lt_from_Contains problem.tokens problem.t ((sound.tokens problem.t).1 (0, omega arith, refl))

-- so the places of the parts' tokens are within the tokens
pub part_places_there : (problem : OpenView) → IsOpenProblem problem → All (λ (place : ℕ). place < length problem.tokens) (map (part_place problem.tokens) problem.parts)
part_places_there problem sound k d below =
    let inside : k < length problem.parts = rw length-map at below in
    rw (get_or-map (part_place problem.tokens) problem.parts k no_part d inside) (parts_there problem sound k no_part inside)

-- the token at its own place
pub token_at : (tokens : List Name) (name : Name) → token_place tokens name < length tokens → get_or tokens (token_place tokens name) [] ≡ name
token_at tokens name there = sym ((bytes_eq-Decides name (get_or tokens (token_place tokens name) [])).0 (passes_at_first (bytes_eq name) tokens [] there))

-- a token is at its place, and at no other
pub same_at : (tokens : List Name) → AllPairs (λ (a b : Name). a ≢ b) tokens → (name : Name) → token_place tokens name < length tokens →
    (j : ℕ) → j < length tokens → bytes_eq (get_or tokens j []) name ≡ nat_eq j (token_place tokens name)
same_at tokens once name there j below = both_ways _ _ to back
  where
    found : get_or tokens (token_place tokens name) [] ≡ name
    found = token_at tokens name there

    back : nat_eq j (token_place tokens name) ≡ true → bytes_eq (get_or tokens j []) name ≡ true
    back e =
        let same : j ≡ token_place tokens name = grind (arith, nat_tests) in
        (bytes_eq-Decides (get_or tokens j []) name).1 (ap (λ (k : ℕ). get_or tokens k []) same ∙ found)

    apart : get_or tokens j [] ≡ name → j ≢ token_place tokens name → ⊥
    apart e differ = elim (cases_lt j (token_place tokens name)) [
      | inl lt ↦ once j (token_place tokens name) [] lt there (e ∙ sym found)
      | inr ge ↦ once (token_place tokens name) j [] (omega arith) below (found ∙ sym e)
    ]

    pick : (c : Bool) → nat_eq j (token_place tokens name) ≡ c → get_or tokens j [] ≡ name → c ≡ true
    pick true t e = refl
    pick false t e = absurd (apart e (grind (arith, nat_tests)))

    to : bytes_eq (get_or tokens j []) name ≡ true → nat_eq j (token_place tokens name) ≡ true
    to e = pick (nat_eq j (token_place tokens name)) refl ((bytes_eq-Decides (get_or tokens j []) name).0 e)

-- the tokens of pools have those of each
pool_tokens_in : (pools : List ProblemPool) (k : ℕ) (d : ProblemPool) → k < length pools →
    Contains (tokens_of_pools pools) (token0_of (get_or pools k d)) × Contains (tokens_of_pools pools) (token1_of (get_or pools k d))
pool_tokens_in [] k d below = absurd (omega arith)
pool_tokens_in (pool ∷ pools) zero d below = ((0, omega arith, refl), (1, omega arith, refl))
pool_tokens_in (pool ∷ pools) (suc k) d below =
    let rest = pool_tokens_in pools k d (omega arith) in
    (later (token0_of (get_or pools k d)) rest.0, later (token1_of (get_or pools k d)) rest.1)
  where
    later : (x : Name) → Contains (tokens_of_pools pools) x → Contains (tokens_of_pools (pool ∷ pools)) x
    later x (i, within, is) = (suc (suc i), omega arith, is)

pub tokens_there : (problem : OpenView) → IsOpenProblem problem →
    All (λ (pool : ProblemPool). (token_place problem.tokens (token0_of pool) < length problem.tokens) × (token_place problem.tokens (token1_of pool) < length problem.tokens)) problem.pools
tokens_there problem sound k d below =
    let has = pool_tokens_in problem.pools k d below in
    (there (token0_of (get_or problem.pools k d)) has.0, there (token1_of (get_or problem.pools k d)) has.1)
  where
    later : (x : Name) → Contains (map (λ (part : Part). part.token) problem.parts ++ tokens_of_pools problem.pools) x → Contains (tokens_named problem.parts problem.t problem.pools) x
    later x (i, within, is) = (suc i, omega arith, is)

    there : (x : Name) → Contains (tokens_of_pools problem.pools) x → token_place problem.tokens x < length problem.tokens
    there x has = place-lt_from_Contains problem.tokens x ((sound.tokens x).1 (later x (Contains-append_right (map (λ (part : Part). part.token) problem.parts) (tokens_of_pools problem.pools) x has)))

-- so the places of the pools' tokens are within the tokens
pub places_there : (problem : OpenView) → IsOpenProblem problem →
    All (λ (at : TokenPlaces). (at.zero < length problem.tokens) × (at.one < length problem.tokens)) (map (places_of problem.tokens) problem.pools)
places_there problem sound k d below =
    let inside : k < length problem.pools = rw length-map at below in
    let is = get_or-map (places_of problem.tokens) problem.pools k no_pool d inside in
    rw is (tokens_there problem sound k no_pool inside)

-- the target, at most eight parts, and at most two for each of at most 256 pools
pub tokens_few : (problem : OpenView) → IsOpenProblem problem → length problem.tokens ≤ 521
tokens_few problem sound =
    omega (
      arith,
      within,
      named problem.pools,
      length-append (map (λ (part : Part). part.token) problem.parts) (tokens_of_pools problem.pools),
      length-map problem.parts (λ (part : Part). part.token),
      sound.parts.few,
      sound.parts.few_parts,
    )
  where
    named : (pools : List ProblemPool) → length (tokens_of_pools pools) ≡ 2 * length pools
    named [] = refl
    named (pool ∷ pools) = omega (arith, named pools)

    differ : (a b : Name) → a ≢ b → bytes_eq a b ≡ false
    differ a b apart = pick (bytes_eq a b) (bytes_eq-Decides a b).0
      where
        pick : (c : Bool) → (c ≡ true → a ≡ b) → c ≡ false
        pick true says = absurd (apart (says refl))
        pick false says = refl

    within : length problem.tokens ≤ length (tokens_named problem.parts problem.t problem.pools)
    within = length-le_from_is_member nat_list_eq_equiv problem.tokens (tokens_named problem.parts problem.t problem.pools)
        (IsDistinct-from_apart bytes_eq problem.tokens (λ i j d ij below. differ _ _ (once_tokens problem sound i j d ij below)))
        (λ q has. (is_member-Decides bytes_eq-Decides (tokens_named problem.parts problem.t problem.pools) q).1 ((sound.tokens q).0 ((is_member-Decides bytes_eq-Decides problem.tokens q).0 has)))

-- every fee that a name spells is one of the three
digits_fee : (digits : List ℕ) → IsFee (fee_of_digits digits)
digits_fee digits = pick (bytes_eq digits (codes "1")) (bytes_eq digits (codes "10"))
  where
    pick : (one ten : Bool) → IsFee (cond one 1 (cond ten 10 3))
    pick true ten = refl
    pick false true = refl
    pick false false = refl

pub fee_of-is : (pool : ProblemPool) → IsFee (fee_of pool)
unfolding pool_fee
fee_of-is pool = digits_fee (after_first (λ b. b == 58) (after_first (λ b. b == 47) pool.name))

-- the two tokens of a pool differ
pub tokens_differ : (pools : List ProblemPool) → All (λ (pool : ProblemPool). IsTrue (is_pool_name pool.name)) pools →
    (k : ℕ) (d : ProblemPool) → k < length pools → token0_of (get_or pools k d) ≢ token1_of (get_or pools k d)
unfolding is_pool_name
tokens_differ pools spelled k d below = before-apart _ _ (third _ _ _ _ (spelled k d below))
  where
    third : (a b c e : Bool) → (a && (b && (c && e))) ≡ true → c ≡ true
    third true true true e h = refl
    third true true false e h = cc
    third true false c e h = cc
    third false b c e h = cc

-- ---- the parts of a problem determine it

-- what a list that ascends has is its first name, or is later
first_or_later : (z y : Name) (ys : List Name) → AllPairs IsBefore (y ∷ ys) → Contains (y ∷ ys) z → (y ≡ z) ⊎ (IsBefore y z × Contains ys z)
first_or_later z y ys up (zero, below, is) = inl is
first_or_later z y ys up (suc k, below, is) = inr (subst (λ (n : Name). IsBefore y n) is (up 0 (suc k) z (omega arith) (omega arith)), (k, omega arith, is))

tail-pairs : (y : Name) (ys : List Name) → AllPairs IsBefore (y ∷ ys) → AllPairs IsBefore ys
tail-pairs y ys up i j d ij below = up (suc i) (suc j) d (omega arith) (omega arith)

tail-has : (x y : Name) (xs ys : List Name) → AllPairs IsBefore (x ∷ xs) → AllPairs IsBefore (y ∷ ys) → x ≡ y →
    ((z : Name) → Contains (x ∷ xs) z → Contains (y ∷ ys) z) → (z : Name) → Contains xs z → Contains ys z
tail-has x y xs ys up down first has z (k, below, is) = pick (first_or_later z y ys down (has z (suc k, omega arith, is)))
  where
    later : IsBefore x z
    later = subst (λ (n : Name). IsBefore x n) is (up 0 (suc k) z (omega arith) (omega arith))

    pick : (y ≡ z) ⊎ (IsBefore y z × Contains ys z) → Contains ys z
    pick (inl e) = absurd (before-apart x z later (first ∙ e))
    pick (inr there) = there.1

none : (x : Name) → Contains [] x → ⊥
none x (k, below, is) = omega arith

-- lists that ascend and have the same names are one list
ascending-same : (xs ys : List Name) → AllPairs IsBefore xs → AllPairs IsBefore ys → ((z : Name) → Contains xs z ↔ Contains ys z) → xs ≡ ys
ascending-same [] [] up down same = refl
ascending-same [] (y ∷ ys) up down same = absurd (none y ((same y).1 (0, omega arith, refl)))
ascending-same (x ∷ xs) [] up down same = absurd (none x ((same x).0 (0, omega arith, refl)))
ascending-same (x ∷ xs) (y ∷ ys) up down same =
    let first : x ≡ y = pick (first_or_later x y ys down ((same x).0 (0, omega arith, refl))) (first_or_later y x xs up ((same y).1 (0, omega arith, refl))) in
    let rest : xs ≡ ys = ascending-same xs ys (tail-pairs x xs up) (tail-pairs y ys down)
    (λ z. (tail-has x y xs ys up down first (λ w. (same w).0) z, tail-has y x ys xs down up (sym first) (λ w. (same w).1) z)) in
    ap (λ (n : Name). n ∷ xs) first ∙ ap (λ (l : List Name). y ∷ l) rest
  where
    pick : (y ≡ x) ⊎ (IsBefore y x × Contains ys x) → (x ≡ y) ⊎ (IsBefore x y × Contains xs y) → x ≡ y
    pick (inl e) other = sym e
    pick (inr less) (inl e) = e
    pick (inr less) (inr more) = absurd (before-apart x x (before-trans x y x more.0 less.0) refl)

same_problem : (p q : OpenView) → p.parts ≡ q.parts → p.t ≡ q.t → p.tokens ≡ q.tokens → p.pools ≡ q.pools → p ≡ q
same_problem p q parts t tokens pools =
    ap (λ (l : List Part). record { parts = l; t = p.t; tokens = p.tokens; pools = p.pools }) parts
    ∙ ap (λ (n : Name). record { parts = q.parts; t = n; tokens = p.tokens; pools = p.pools }) t
    ∙ ap (λ (n : List Name). record { parts = q.parts; t = q.t; tokens = n; pools = p.pools }) tokens
    ∙ ap (λ (n : List ProblemPool). record { parts = q.parts; t = q.t; tokens = q.tokens; pools = n }) pools

pub one_open_problem : (parts : List Part) (t : Name) (pools : List ProblemPool) (p q : OpenView) → IsOpenProblemOf parts t pools p → IsOpenProblemOf parts t pools q → p ≡ q
one_open_problem parts t pools p q of_p of_q =
    same_problem p q sources target (ascending-same p.tokens q.tokens of_p.sound.ascending of_q.sound.ascending same) over
  where
    sources : p.parts ≡ q.parts
    sources = of_p.sources ∙ sym of_q.sources

    target : p.t ≡ q.t
    target = of_p.target ∙ sym of_q.target

    over : p.pools ≡ q.pools
    over = of_p.over ∙ sym of_q.over

    named : tokens_named p.parts p.t p.pools ≡ tokens_named q.parts q.t q.pools
    named = ap (λ (l : List Part). tokens_named l p.t p.pools) sources ∙ ap (λ (n : Name). tokens_named q.parts n p.pools) target ∙ ap (λ (l : List ProblemPool). tokens_named q.parts q.t l) over

    same : (z : Name) → Contains p.tokens z ↔ Contains q.tokens z
    same z = (
      λ has. (of_q.sound.tokens z).1 (subst (λ (l : List Name). Contains l z) named ((of_p.sound.tokens z).0 has)),
      λ has. (of_p.sound.tokens z).1 (subst (λ (l : List Name). Contains l z) (sym named) ((of_q.sound.tokens z).0 has)),
    )

pub one_problem : (s t : Name) (d : ℕ) (pools : List ProblemPool) (p q : ProblemView) → IsProblemOf s t d pools p → IsProblemOf s t d pools q → p ≡ q
one_problem s t d pools p q of_p of_q =
    ap (λ (o : OpenView). record { s = (get_or o.parts 0 no_part).token; t = o.t; d = (get_or o.parts 0 no_part).amount; tokens = o.tokens; pools = o.pools })
    (one_open_problem (one_part s d) t pools (open_view p) (open_view q) of_p of_q)

-- nothing is given of a token of no part
pub none_given : (parts : List Part) (y : Name) → All (λ (part : Part). part.token ≢ y) parts → given_by_parts parts y ≡ 0
none_given [] y apart = refl
none_given (part ∷ parts) y apart = pick (bytes_eq y part.token) (bytes_eq-Decides y part.token).0 (none_given parts y (All-tail (λ (p : Part). p.token ≢ y) part parts apart))
  where
    pick : (b : Bool) → (b ≡ true → y ≡ part.token) → given_by_parts parts y ≡ 0 → cond b part.amount (given_by_parts parts y) ≡ 0
    pick true says rest = absurd (apart 0 part (omega arith) (sym (says refl)))
    pick false says rest = rest
