-- The ways of at most three hops are all paths.
use Rattle.std.proofs.Common.{◌≡◌, ◌≢◌, ℕ, ◌<◌, ◌≤◌, ◌^◌, ◌⊎◌, inl, inr, Bool, true, false, cond, ◌&&◌, Some, None, List, [], ◌∷◌, length, map, arith, zero, suc, refl, sym, ap, subst, ◌∙◌, get_or}
use Rattle.std.specs.Prelude.{All, AllPairs, Contains, Option, nat_lt}
use Rattle.std.specs.Str.{bytes_eq}
use Rattle.std.proofs.lemmas.Bool.{lt-ltb, ltb-true}
use Rattle.std.proofs.lemmas.Slice.Eq.{bytes_eq-Decides}
use Rattle.std.proofs.lemmas.List.Elements.{All-cons, All-map}
use Rattle.amm_model.specs.declared.problem.ProblemPool.{ProblemPool}
use Rattle.amm_model.specs.declared.route.Hop.{Hop}
use Rattle.amm_model.specs.Routing.{no_pool, token0_of, token1_of}
use Rattle.amm_names.specs.Names.{Name}
use Rattle.amm_model.specs.Legs.{IsAdmissible}
use Rattle.amm_model.specs.Paths.{AreAllPaths, ComesBefore, IsHop, IsPath, hop_from, hop_places, hop_to}
use Rattle.amm_graph.specs.Ways.{hop_over, is_admissible, onward, through, ways}
use Rattle.amm_graph.proofs.Sides.{hop_over-is}
use Rattle.amm_graph.proofs.Lists.{All1, All2, All3, All-joined, All-none, AllPairs-joined, AllPairs-map, AllPairs-none, AllPairs-one, Contains-joined, Contains-map, Pairs2, Pairs3, Pairs4}

-- the two tokens of each pool differ
abbrev pub HaveTwoTokens : List ProblemPool → Type 0
HaveTwoTokens pools = (k : ℕ) → k < length pools → token0_of (get_or pools k no_pool) ≢ token1_of (get_or pools k no_pool)

-- ---- a hop over a pool

admissible-from : (pool : ProblemPool) → is_admissible pool ≡ true → IsAdmissible pool
admissible-from pool fine = pick (nat_lt pool.b0 (2 ^ 48)) (nat_lt pool.b1 (2 ^ 48)) refl refl fine
  where
    pick : (a b : Bool) → nat_lt pool.b0 (2 ^ 48) ≡ a → nat_lt pool.b1 (2 ^ 48) ≡ b → (a && b) ≡ true → IsAdmissible pool
    pick true true low high e = (ltb-true _ _ low, ltb-true _ _ high)
    pick true false low high e = absurd cc
    pick false b low high e = absurd cc

admissible-to : (pool : ProblemPool) → IsAdmissible pool → is_admissible pool ≡ true
admissible-to pool fine = rw (lt-ltb _ _ fine.0, lt-ltb _ _ fine.1) refl

-- a hop that is found
pub record IsFound (pools : List ProblemPool) (at : Name) (i : ℕ) (hop : Hop) : Type 0 where
  pub place : hop.pool ≡ i
  pub admissible : IsAdmissible (get_or pools i no_pool)
  pub leaves : hop_from pools hop ≡ at

pub hop_over-some : (pools : List ProblemPool) (at : Name) (i : ℕ) (hop : Hop) → hop_over pools at i ≡ Some hop → IsFound pools at i hop
hop_over-some pools at i hop some = pick _ _ _ refl refl refl (sym some ∙ hop_over-is pools at i _ _ _ refl refl refl)
  where
    first : Hop
    first = record { pool = i; zero_in = true }

    second : Hop
    second = record { pool = i; zero_in = false }

    pick : (a b c : Bool) → is_admissible (get_or pools i no_pool) ≡ a → bytes_eq at (token0_of (get_or pools i no_pool)) ≡ b → bytes_eq at (token1_of (get_or pools i no_pool)) ≡ c →
        Some hop ≡ cond a (cond b (Some first) (cond c (Some second) None)) None → IsFound pools at i hop
    pick false b c fine low high e = absurd cc
    pick true true c fine low high e =
        let same : first ≡ hop = cc in
        subst (λ (h : Hop). IsFound pools at i h) same (record { place = refl; admissible = admissible-from (get_or pools i no_pool) fine; leaves = sym ((bytes_eq-Decides at (token0_of (get_or pools i no_pool))).0 low) })
    pick true false true fine low high e =
        let same : second ≡ hop = cc in
        subst (λ (h : Hop). IsFound pools at i h) same (record { place = refl; admissible = admissible-from (get_or pools i no_pool) fine; leaves = sym ((bytes_eq-Decides at (token1_of (get_or pools i no_pool))).0 high) })
    pick true false false fine low high e = absurd cc

differ : (a b : Name) → a ≢ b → bytes_eq a b ≡ false
differ a b apart = pick (bytes_eq a b) (bytes_eq-Decides a b).0
  where
    pick : (c : Bool) → (c ≡ true → a ≡ b) → c ≡ false
    pick true says = absurd (apart (says refl))
    pick false says = refl

equal : (a b : Name) → a ≡ b → bytes_eq a b ≡ true
equal a b e = (bytes_eq-Decides a b).1 e

pub hop_over-back : (pools : List ProblemPool) (at : Name) (hop : Hop) → HaveTwoTokens pools → IsHop pools hop → hop_from pools hop ≡ at → hop_over pools at hop.pool ≡ Some hop
hop_over-back pools at hop two legal leaves = by_side hop.pool hop.zero_in legal.there legal.admissible leaves
  where
    by_side : (place : ℕ) (z : Bool) → (let h : Hop = record { pool = place; zero_in = z } in
        place < length pools → IsAdmissible (get_or pools place no_pool) → hop_from pools h ≡ at → hop_over pools at place ≡ Some h)
    by_side place true there fine leaves =
        hop_over-is pools at place true true (bytes_eq at (token1_of (get_or pools place no_pool))) (admissible-to (get_or pools place no_pool) fine) (equal at (token0_of (get_or pools place no_pool)) (sym leaves)) refl
    by_side place false there fine leaves =
        hop_over-is pools at place true false true (admissible-to (get_or pools place no_pool) fine)
        (differ at (token0_of (get_or pools place no_pool)) (λ e. two place there (sym e ∙ sym leaves))) (equal at (token1_of (get_or pools place no_pool)) (sym leaves))

-- ---- ways

-- hops from a token to t that meet neither t nor s before
abbrev pub IsWay : List ProblemPool → (s t at : Name) → List Hop → Type 0
IsWay pools s t at [] = ⊥
IsWay pools s t at (hop ∷ []) = IsHop pools hop × (hop_from pools hop ≡ at) × (hop_to pools hop ≡ t)
IsWay pools s t at (hop ∷ next ∷ hops) =
    IsHop pools hop × (hop_from pools hop ≡ at) × (hop_to pools hop ≢ t) × (hop_to pools hop ≢ s) × IsWay pools s t (hop_to pools hop) (next ∷ hops)

abbrev IsShortWay : ℕ → List ProblemPool → (s t at : Name) → List Hop → Type 0
IsShortWay n pools s t at hops = (length hops ≤ n) × IsWay pools s t at hops

one_hop_more : (n : ℕ) (pools : List ProblemPool) (s t at : Name) (hop : Hop) (hops : List Hop) → IsHop pools hop → hop_from pools hop ≡ at → hop_to pools hop ≢ t → hop_to pools hop ≢ s →
    IsShortWay n pools s t (hop_to pools hop) hops → IsShortWay (suc n) pools s t at (hop ∷ hops)
one_hop_more n pools s t at hop [] legal leaves past back way = absurd way.1
one_hop_more n pools s t at hop (next ∷ hops) legal leaves past back way = (omega (arith, way.0), (legal, leaves, past, back, way.1))

sound-onward : (n : ℕ) (pools : List ProblemPool) (s t at : Name) (rest : Name → List (List Hop)) → ((next : Name) → All (IsShortWay n pools s t next) (rest next)) →
    (i : ℕ) → i < length pools → (o : Option Hop) → hop_over pools at i ≡ o → All (IsShortWay (suc n) pools s t at) (onward rest pools s t o)
sound-onward n pools s t at rest each i below None is = All-none (IsShortWay (suc n) pools s t at)
sound-onward n pools s t at rest each i below (Some hop) is = pick (bytes_eq (hop_to pools hop) t) (bytes_eq (hop_to pools hop) s) refl refl
  where
    found : IsFound pools at i hop
    found = hop_over-some pools at i hop is

    legal : IsHop pools hop
    legal = record { there = rw found.place below; admissible = rw found.place found.admissible }

    apart : (a b : Name) → bytes_eq a b ≡ false → a ≢ b
    apart a b not e = let yes : bytes_eq a b ≡ true = equal a b e in cc

    pick : (a b : Bool) → bytes_eq (hop_to pools hop) t ≡ a → bytes_eq (hop_to pools hop) s ≡ b →
        All (IsShortWay (suc n) pools s t at) (cond a ((hop ∷ []) ∷ []) (cond b [] (map (λ (hops : List Hop). hop ∷ hops) (rest (hop_to pools hop)))))
    pick true b ends back =
        All-cons (IsShortWay (suc n) pools s t at) (hop ∷ []) [] (omega arith, (legal, found.leaves, (bytes_eq-Decides (hop_to pools hop) t).0 ends)) (All-none (IsShortWay (suc n) pools s t at))
    pick false true ends back = All-none (IsShortWay (suc n) pools s t at)
    pick false false ends back =
        All-map (IsShortWay (suc n) pools s t at) (λ (hops : List Hop). hop ∷ hops) (rest (hop_to pools hop))
        (λ k d inside. one_hop_more n pools s t at hop (get_or (rest (hop_to pools hop)) k d) legal found.leaves (apart (hop_to pools hop) t ends) (apart (hop_to pools hop) s back) (each (hop_to pools hop) k d inside))

pub ways-sound : (n : ℕ) (pools : List ProblemPool) (s t at : Name) → All (IsShortWay n pools s t at) (ways n pools s t at)
unfolding ways
ways-sound zero pools s t at = All-none (IsShortWay zero pools s t at)
ways-sound (suc n) pools s t at =
    All-joined (IsShortWay (suc n) pools s t at) (through (ways n pools s t) pools s t at) (length pools)
    (λ i below. sound-onward n pools s t at (ways n pools s t) (λ next. ways-sound n pools s t next) i below (hop_over pools at i) refl)

-- what goes on from a hop
onward-end : (rest : Name → List (List Hop)) (pools : List ProblemPool) (s t : Name) (hop : Hop) → hop_to pools hop ≡ t → onward rest pools s t (Some hop) ≡ (hop ∷ []) ∷ []
onward-end rest pools s t hop e =
    ap (λ (b : Bool). cond b ((hop ∷ []) ∷ []) (cond (bytes_eq (hop_to pools hop) s) [] (map (λ (hops : List Hop). hop ∷ hops) (rest (hop_to pools hop))))) (equal _ _ e)

onward-on : (rest : Name → List (List Hop)) (pools : List ProblemPool) (s t : Name) (hop : Hop) → hop_to pools hop ≢ t → hop_to pools hop ≢ s →
    onward rest pools s t (Some hop) ≡ map (λ (hops : List Hop). hop ∷ hops) (rest (hop_to pools hop))
onward-on rest pools s t hop past back =
    ap (λ (b : Bool). cond b ((hop ∷ []) ∷ []) (cond (bytes_eq (hop_to pools hop) s) [] (map (λ (hops : List Hop). hop ∷ hops) (rest (hop_to pools hop))))) (differ _ _ past)
    ∙ ap (λ (b : Bool). cond b [] (map (λ (hops : List Hop). hop ∷ hops) (rest (hop_to pools hop)))) (differ _ _ back)

pub ways-complete : (n : ℕ) (pools : List ProblemPool) (s t at : Name) (hops : List Hop) → HaveTwoTokens pools → IsWay pools s t at hops → length hops ≤ n → Contains (ways n pools s t at) hops
unfolding ways
ways-complete n pools s t at [] two way short = absurd way
ways-complete zero pools s t at (hop ∷ hops) two way short = absurd (omega arith)
ways-complete (suc n) pools s t at (hop ∷ []) two way short =
    Contains-joined (through (ways n pools s t) pools s t at) (length pools) hop.pool (hop ∷ []) way.0.there
    (subst (λ (ls : List (List Hop)). Contains ls (hop ∷ []))
    (sym (ap (onward (ways n pools s t) pools s t) (hop_over-back pools at hop two way.0 way.1) ∙ onward-end (ways n pools s t) pools s t hop way.2))
    (0, omega arith, refl))
ways-complete (suc n) pools s t at (hop ∷ next ∷ hops) two way short =
    Contains-joined (through (ways n pools s t) pools s t at) (length pools) hop.pool (hop ∷ next ∷ hops) way.0.there
    (subst (λ (ls : List (List Hop)). Contains ls (hop ∷ next ∷ hops))
    (sym (ap (onward (ways n pools s t) pools s t) (hop_over-back pools at hop two way.0 way.1) ∙ onward-on (ways n pools s t) pools s t hop way.2 way.3))
    (Contains-map (λ (ls : List Hop). hop ∷ ls) (ways n pools s t (hop_to pools hop)) (next ∷ hops) (ways-complete n pools s t (hop_to pools hop) (next ∷ hops) two way.4 (omega arith))))

-- ---- their order

abbrev ComeBefore : List Hop → List Hop → Type 0
ComeBefore a b = ComesBefore (hop_places a) (hop_places b)

-- the first hop is over the pool at the place
abbrev Begins : ℕ → List Hop → Type 0
Begins i [] = ⊥
Begins i (hop ∷ hops) = hop.pool ≡ i

begins_before : (i j : ℕ) (a b : List Hop) → i < j → Begins i a → Begins j b → ComeBefore a b
begins_before i j [] b ij first second = absurd first
begins_before i j (p ∷ a) [] ij first second = absurd second
begins_before i j (p ∷ a) (q ∷ b) ij first second = inl (omega arith)

begins-onward : (rest : Name → List (List Hop)) (pools : List ProblemPool) (s t at : Name) (i : ℕ) (o : Option Hop) → hop_over pools at i ≡ o → All (Begins i) (onward rest pools s t o)
begins-onward rest pools s t at i None is = All-none (Begins i)
begins-onward rest pools s t at i (Some hop) is = pick (bytes_eq (hop_to pools hop) t) (bytes_eq (hop_to pools hop) s)
  where
    place : hop.pool ≡ i
    place = (hop_over-some pools at i hop is).place

    pick : (a b : Bool) → All (Begins i) (cond a ((hop ∷ []) ∷ []) (cond b [] (map (λ (hops : List Hop). hop ∷ hops) (rest (hop_to pools hop)))))
    pick true b = All-cons (Begins i) (hop ∷ []) [] place (All-none (Begins i))
    pick false true = All-none (Begins i)
    pick false false = All-map (Begins i) (λ (hops : List Hop). hop ∷ hops) (rest (hop_to pools hop)) (λ k d inside. place)

ordered-onward : (rest : Name → List (List Hop)) (pools : List ProblemPool) (s t : Name) → ((next : Name) → AllPairs ComeBefore (rest next)) → (o : Option Hop) → AllPairs ComeBefore (onward rest pools s t o)
ordered-onward rest pools s t each None = AllPairs-none ComeBefore
ordered-onward rest pools s t each (Some hop) = pick (bytes_eq (hop_to pools hop) t) (bytes_eq (hop_to pools hop) s)
  where
    pick : (a b : Bool) → AllPairs ComeBefore (cond a ((hop ∷ []) ∷ []) (cond b [] (map (λ (hops : List Hop). hop ∷ hops) (rest (hop_to pools hop)))))
    pick true b = AllPairs-one ComeBefore (hop ∷ [])
    pick false true = AllPairs-none ComeBefore
    pick false false =
        AllPairs-map ComeBefore (λ (hops : List Hop). hop ∷ hops) (rest (hop_to pools hop)) (λ i j d ij below. inr (refl, each (hop_to pools hop) i j d ij below))

pub ways-ordered : (n : ℕ) (pools : List ProblemPool) (s t at : Name) → AllPairs ComeBefore (ways n pools s t at)
unfolding ways
ways-ordered zero pools s t at = AllPairs-none ComeBefore
ways-ordered (suc n) pools s t at =
    AllPairs-joined ComeBefore (through (ways n pools s t) pools s t at) (length pools)
    (λ i below. ordered-onward (ways n pools s t) pools s t (λ next. ways-ordered n pools s t next) (hop_over pools at i))
    (λ i j ij below k d here l e there. begins_before i j _ _ ij
    (begins-onward (ways n pools s t) pools s t at i (hop_over pools at i) refl k d here)
    (begins-onward (ways n pools s t) pools s t at j (hop_over pools at j) refl l e there))

-- ---- ways of at most three hops from s are paths

-- two hops over one pool: the one leads to a token of the other
same_pool : (pools : List ProblemPool) (a b : Hop) → a.pool ≡ b.pool → (hop_to pools b ≡ hop_from pools a) ⊎ (hop_to pools b ≡ hop_to pools a)
same_pool pools a b same = by_sides a.pool b.pool a.zero_in b.zero_in same
  where
    by_sides : (p q : ℕ) (y z : Bool) → (let h : Hop = record { pool = p; zero_in = y } in let k : Hop = record { pool = q; zero_in = z } in
        p ≡ q → (hop_to pools k ≡ hop_from pools h) ⊎ (hop_to pools k ≡ hop_to pools h))
    by_sides p q true true e = inr (ap (λ (n : ℕ). token1_of (get_or pools n no_pool)) (sym e))
    by_sides p q true false e = inl (ap (λ (n : ℕ). token0_of (get_or pools n no_pool)) (sym e))
    by_sides p q false true e = inl (ap (λ (n : ℕ). token1_of (get_or pools n no_pool)) (sym e))
    by_sides p q false false e = inr (ap (λ (n : ℕ). token0_of (get_or pools n no_pool)) (sym e))

-- a hop leads elsewhere
leads_away : (pools : List ProblemPool) (hop : Hop) → HaveTwoTokens pools → IsHop pools hop → hop_from pools hop ≢ hop_to pools hop
leads_away pools hop two legal = by_side hop.pool hop.zero_in legal.there
  where
    by_side : (p : ℕ) (z : Bool) → (let h : Hop = record { pool = p; zero_in = z } in p < length pools → hop_from pools h ≢ hop_to pools h)
    by_side p true there = two p there
    by_side p false there = λ e. two p there (sym e)

apart_pools : (pools : List ProblemPool) (a b : Hop) → hop_to pools b ≢ hop_from pools a → hop_to pools b ≢ hop_to pools a → a.pool ≢ b.pool
apart_pools pools a b not_from not_to same = elim (same_pool pools a b same) [ inl e ↦ not_from e | inr e ↦ not_to e ]

abbrev Apart : ℕ → ℕ → Type 0
Apart a b = a ≢ b

abbrev Other : Name → Name → Type 0
Other a b = a ≢ b

pub way-path : (pools : List ProblemPool) (s t : Name) (hops : List Hop) → HaveTwoTokens pools → s ≢ t → IsShortWay 3 pools s t s hops → IsPath pools s t hops
way-path pools s t [] two ends way = absurd way.1
way-path pools s t (a ∷ []) two ends way = record {
  short = (omega arith, omega arith);
  over = All1 (IsHop pools) a way.1.0;
  different = AllPairs-one Apart a.pool;
  leads = (way.1.1, way.1.2);
  simple = Pairs2 Other s (hop_to pools a) (λ e. ends (e ∙ way.1.2));
}
way-path pools s t (a ∷ b ∷ []) two ends way =
    let first = way.1 in
    let last = way.1.4 in
    let b-away = leads_away pools b two last.0 in
    record {
      short = (omega arith, omega arith);
      over = All2 (IsHop pools) a b first.0 last.0;
      different = Pairs2 Apart a.pool b.pool (apart_pools pools a b (λ e. ends (sym first.1 ∙ sym e ∙ last.2)) (λ e. b-away (last.1 ∙ sym e)));
      leads = (first.1, (last.1, last.2));
      simple = Pairs3 Other s (hop_to pools a) (hop_to pools b) (λ e. first.3 (sym e)) (λ e. ends (e ∙ last.2)) (λ e. first.2 (e ∙ last.2));
    }
way-path pools s t (a ∷ b ∷ c ∷ []) two ends way =
    let first = way.1 in
    let second = way.1.4 in
    let last = way.1.4.4 in
    let b-away = leads_away pools b two second.0 in
    let c-away = leads_away pools c two last.0 in
    record {
      short = (omega arith, omega arith);
      over = All3 (IsHop pools) a b c first.0 second.0 last.0;
      different = Pairs3 Apart a.pool b.pool c.pool
          (apart_pools pools a b (λ e. second.3 (e ∙ first.1)) (λ e. b-away (second.1 ∙ sym e)))
          (apart_pools pools a c (λ e. ends (sym first.1 ∙ sym e ∙ last.2)) (λ e. first.2 (sym e ∙ last.2)))
          (apart_pools pools b c (λ e. first.2 (sym second.1 ∙ sym e ∙ last.2)) (λ e. c-away (last.1 ∙ sym e)));
      leads = (first.1, (second.1, (last.1, last.2)));
      simple = Pairs4 Other s (hop_to pools a) (hop_to pools b) (hop_to pools c)
          (λ e. first.3 (sym e)) (λ e. second.3 (sym e)) (λ e. ends (e ∙ last.2)) (λ e. b-away (second.1 ∙ e)) (λ e. first.2 (e ∙ last.2)) (λ e. second.2 (e ∙ last.2));
    }
way-path pools s t (a ∷ b ∷ c ∷ d ∷ hops) two ends way = absurd (omega (arith, way.0))

pub path-way : (pools : List ProblemPool) (s t : Name) (hops : List Hop) → IsPath pools s t hops → IsWay pools s t s hops
path-way pools s t [] path = absurd (omega (arith, path.short.0))
path-way pools s t (a ∷ []) path = (path.over 0 a (omega arith), path.leads.0, path.leads.1)
path-way pools s t (a ∷ b ∷ []) path = (
  path.over 0 a (omega arith),
  path.leads.0,
  (λ e. path.simple 1 2 s (omega arith) (omega arith) (e ∙ sym path.leads.1.1)),
  (λ e. path.simple 0 1 s (omega arith) (omega arith) (sym e)),
  (path.over 1 a (omega arith), path.leads.1.0, path.leads.1.1),
)
path-way pools s t (a ∷ b ∷ c ∷ []) path = (
  path.over 0 a (omega arith),
  path.leads.0,
  (λ e. path.simple 1 3 s (omega arith) (omega arith) (e ∙ sym path.leads.1.1.1)),
  (λ e. path.simple 0 1 s (omega arith) (omega arith) (sym e)),
  (
    path.over 1 a (omega arith),
    path.leads.1.0,
    (λ e. path.simple 2 3 s (omega arith) (omega arith) (e ∙ sym path.leads.1.1.1)),
    (λ e. path.simple 0 2 s (omega arith) (omega arith) (sym e)),
    (path.over 2 a (omega arith), path.leads.1.1.0, path.leads.1.1.1),
  ),
)
path-way pools s t (a ∷ b ∷ c ∷ d ∷ hops) path = absurd (omega (arith, path.short.1))

pub all_paths : (pools : List ProblemPool) (s t : Name) → HaveTwoTokens pools → s ≢ t → AreAllPaths pools s t (ways 3 pools s t s)
all_paths pools s t two ends = record {
  sound = λ k d below. way-path pools s t _ two ends (ways-sound 3 pools s t s k d below);
  complete = λ path is_path. ways-complete 3 pools s t s path two (path-way pools s t path is_path) is_path.short.1;
  ordered = ways-ordered 3 pools s t s;
}
