-- The hop over a pool from a token, by the places of tokens.
use Rattle.std.proofs.Common.{◌≡◌, ◌≢◌, ℕ, ◌<◌, inl, inr, Bool, true, false, cond, nat_eq, Some, None, List, [], length, map, arith, refl, sym, ap, subst, ◌∙◌, get_or}
use Rattle.std.specs.Str.{bytes_eq}
use Rattle.std.specs.Cmp.{both_ways}
use Rattle.std.proofs.lemmas.Bool.{cases_lt, ne_eqb}
use Rattle.std.proofs.lemmas.Bool.Decides.{nat_tests}
use Rattle.std.proofs.lemmas.List.{get_or-map}
use Rattle.std.proofs.lemmas.Slice.Eq.{bytes_eq-Decides}
use Rattle.amm_model.specs.declared.problem.ProblemPool.{ProblemPool}
use Rattle.amm_model.specs.declared.problem.TokenPlaces.{TokenPlaces}
use Rattle.amm_model.specs.declared.route.Hop.{Hop}
use Rattle.amm_model.specs.Routing.{OpenView, ProblemView, IsOpenProblem, no_pool, one_part, open_view, part_place, places_of, token0_of, token1_of, token_place}
use Rattle.amm_names.specs.Names.{Name}
use Rattle.amm_model.proofs.Problems.{no_part, once_tokens, parts_there, same_at, target_there, token_at, tokens_there}
use Rattle.amm_graph.specs.Ways.{hop_over, is_admissible}

abbrev pub no_places : TokenPlaces
no_places = record { zero = 0; one = 0 }

abbrev pub name_at : OpenView → ℕ → Name
name_at problem place = get_or problem.tokens place []

-- where a pool's tokens stand
pub places_at : (problem : OpenView) (places : List TokenPlaces) (i : ℕ) → i < length problem.pools → places ≡ map (places_of problem.tokens) problem.pools →
    get_or places i no_places ≡ places_of problem.tokens (get_or problem.pools i no_pool)
places_at problem places i below are = ap (λ (ps : List TokenPlaces). get_or ps i no_places) are ∙ get_or-map (places_of problem.tokens) problem.pools i no_pool no_places below

-- a token is a pool's first where their places are equal, and so for its second
pub zero_test : (problem : OpenView) → IsOpenProblem problem → (places : List TokenPlaces) (at i : ℕ) → at < length problem.tokens → i < length problem.pools →
    places ≡ map (places_of problem.tokens) problem.pools → bytes_eq (name_at problem at) (token0_of (get_or problem.pools i no_pool)) ≡ nat_eq at (get_or places i no_places).zero
zero_test problem sound places at i inside below are =
    same_at problem.tokens (once_tokens problem sound) (token0_of (get_or problem.pools i no_pool)) (tokens_there problem sound i no_pool below).0 at inside
    ∙ ap (λ (p : TokenPlaces). nat_eq at p.zero) (sym (places_at problem places i below are))

pub one_test : (problem : OpenView) → IsOpenProblem problem → (places : List TokenPlaces) (at i : ℕ) → at < length problem.tokens → i < length problem.pools →
    places ≡ map (places_of problem.tokens) problem.pools → bytes_eq (name_at problem at) (token1_of (get_or problem.pools i no_pool)) ≡ nat_eq at (get_or places i no_places).one
one_test problem sound places at i inside below are =
    same_at problem.tokens (once_tokens problem sound) (token1_of (get_or problem.pools i no_pool)) (tokens_there problem sound i no_pool below).1 at inside
    ∙ ap (λ (p : TokenPlaces). nat_eq at p.one) (sym (places_at problem places i below are))

-- the token at the place of a pool's first, and of its second
pub zero_name : (problem : OpenView) → IsOpenProblem problem → (places : List TokenPlaces) (i : ℕ) → i < length problem.pools →
    places ≡ map (places_of problem.tokens) problem.pools → name_at problem (get_or places i no_places).zero ≡ token0_of (get_or problem.pools i no_pool)
zero_name problem sound places i below are =
    ap (λ (p : TokenPlaces). name_at problem p.zero) (places_at problem places i below are) ∙ token_at problem.tokens (token0_of (get_or problem.pools i no_pool)) (tokens_there problem sound i no_pool below).0

pub one_name : (problem : OpenView) → IsOpenProblem problem → (places : List TokenPlaces) (i : ℕ) → i < length problem.pools →
    places ≡ map (places_of problem.tokens) problem.pools → name_at problem (get_or places i no_places).one ≡ token1_of (get_or problem.pools i no_pool)
one_name problem sound places i below are =
    ap (λ (p : TokenPlaces). name_at problem p.one) (places_at problem places i below are) ∙ token_at problem.tokens (token1_of (get_or problem.pools i no_pool)) (tokens_there problem sound i no_pool below).1

-- the hop, by its three tests
pub hop_over-is : (pools : List ProblemPool) (at : Name) (i : ℕ) (a b c : Bool) → is_admissible (get_or pools i no_pool) ≡ a →
    bytes_eq at (token0_of (get_or pools i no_pool)) ≡ b → bytes_eq at (token1_of (get_or pools i no_pool)) ≡ c →
    hop_over pools at i ≡ cond a (cond b (Some (let h : Hop = record { pool = i; zero_in = true } in h)) (cond c (Some (let h : Hop = record { pool = i; zero_in = false } in h)) None)) None
unfolding hop_over
hop_over-is pools at i a b c fine zero one =
    let first : Hop = record { pool = i; zero_in = true } in
    let second : Hop = record { pool = i; zero_in = false } in
    ap (λ (x : Bool). cond x (cond (bytes_eq at (token0_of (get_or pools i no_pool))) (Some first) (cond (bytes_eq at (token1_of (get_or pools i no_pool))) (Some second) None)) None) fine
    ∙ ap (λ (x : Bool). cond a (cond x (Some first) (cond (bytes_eq at (token1_of (get_or pools i no_pool))) (Some second) None)) None) zero
    ∙ ap (λ (x : Bool). cond a (cond b (Some first) (cond x (Some second) None)) None) one

pub hop_over-not : (pools : List ProblemPool) (at : Name) (i : ℕ) → is_admissible (get_or pools i no_pool) ≡ false → hop_over pools at i ≡ None
hop_over-not pools at i not = hop_over-is pools at i false _ _ not refl refl

-- tokens at two places are equal where the places are
pub names_test : (problem : OpenView) → IsOpenProblem problem → (a b : ℕ) → a < length problem.tokens → b < length problem.tokens →
    bytes_eq (name_at problem a) (name_at problem b) ≡ nat_eq a b
names_test problem sound a b first second = both_ways _ _ to back
  where
    differ : name_at problem a ≡ name_at problem b → a ≢ b → ⊥
    differ e apart = elim (cases_lt a b) [
      | inl lt ↦ once_tokens problem sound a b [] lt second e
      | inr ge ↦ once_tokens problem sound b a [] (omega arith) first (sym e)
    ]

    pick : (c : Bool) → nat_eq a b ≡ c → name_at problem a ≡ name_at problem b → c ≡ true
    pick true t e = refl
    pick false t e = absurd (differ e (grind (arith, nat_tests)))

    to : bytes_eq (name_at problem a) (name_at problem b) ≡ true → nat_eq a b ≡ true
    to e = pick (nat_eq a b) refl ((bytes_eq-Decides (name_at problem a) (name_at problem b)).0 e)

    back : nat_eq a b ≡ true → bytes_eq (name_at problem a) (name_at problem b) ≡ true
    back e =
        let same : a ≡ b = grind (arith, nat_tests) in
        (bytes_eq-Decides (name_at problem a) (name_at problem b)).1 (ap (λ (k : ℕ). name_at problem k) same)

pub names_apart : (problem : OpenView) → IsOpenProblem problem → (a b : ℕ) → a < length problem.tokens → b < length problem.tokens → a ≢ b → name_at problem a ≢ name_at problem b
names_apart problem sound a b first second apart e =
    let yes = (bytes_eq-Decides (name_at problem a) (name_at problem b)).1 e in
    let test = names_test problem sound a b first second in
    let not : nat_eq a b ≡ false = ne_eqb a b apart in
    let wrong : true ≡ false = sym yes ∙ test ∙ not in
    cc

-- What the places of a problem's one part and of its target name.
pub record AreEnds (p : ProblemView) (general : OpenView) (from to : ℕ) : Type 0 where
  pub source : name_at general from ≡ p.s
  pub target : name_at general to ≡ p.t
  pub apart : from ≢ to
  pub pools : general.pools ≡ p.pools

pub ends_of : (p : ProblemView) (general : OpenView) (places : List ℕ) (to : ℕ) → general ≡ open_view p → IsOpenProblem general → places ≡ map (part_place general.tokens) general.parts →
    to ≡ token_place general.tokens general.t → AreEnds p general (get_or places 0 0) to
ends_of p general places to is = subst (λ (g : OpenView). IsOpenProblem g → places ≡ map (part_place g.tokens) g.parts → to ≡ token_place g.tokens g.t → AreEnds p g (get_or places 0 0) to) (sym is) of_one
  where
    of_one : IsOpenProblem (open_view p) → places ≡ map (part_place p.tokens) (one_part p.s p.d) → to ≡ token_place p.tokens p.t → AreEnds p (open_view p) (get_or places 0 0) to
    of_one sound are to-is =
        let from : get_or places 0 0 ≡ token_place p.tokens p.s = ap (λ (l : List ℕ). get_or l 0 0) are in
        let source : name_at (open_view p) (get_or places 0 0) ≡ p.s = ap (name_at (open_view p)) from ∙ token_at p.tokens p.s (parts_there (open_view p) sound 0 no_part (omega arith)) in
        let target : name_at (open_view p) to ≡ p.t = ap (name_at (open_view p)) to-is ∙ token_at p.tokens p.t (target_there (open_view p) sound) in
        record {
          source = source;
          target = target;
          apart = λ e. sound.parts.apart 0 no_part (omega arith) (sym source ∙ ap (name_at (open_view p)) e ∙ target);
          pools = refl;
        }
