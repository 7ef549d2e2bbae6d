-- The legs of one path, and of two.
use Rattle.std.proofs.Common.{◌≡◌, ◌≢◌, ℕ, ◌+◌, ◌-◌, ◌*◌, ◌<◌, ◌≤◌, ◌⊎◌, inl, inr, Bool, true, false, cond, Some, None, ◌++◌, List, [], ◌∷◌, length, arith, zero, suc, refl, ap, sym, subst, ◌∙◌, get_or}
use Rattle.std.specs.Prelude.{AllPairs, Contains, MatchOption, Option}
use Rattle.std.specs.Str.{bytes_eq}
use Rattle.std.proofs.lemmas.Slice.Eq.{bytes_eq-Decides}
use Rattle.std.proofs.lemmas.List.{append-nil}
use Rattle.std.proofs.lemmas.List.Elements.{All-contains}
use Rattle.std.proofs.lemmas.List.Sums.{sum_by-cons}
use Rattle.amm_model.specs.declared.problem.ProblemPool.{ProblemPool}
use Rattle.amm_model.specs.declared.route.Hop.{Hop}
use Rattle.amm_model.specs.declared.route.Leg.{Leg}
use Rattle.amm_model.specs.declared.problem.Part.{Part}
use Rattle.amm_model.specs.Routing.{OpenView, IsBefore, IsOpenProblem, amount_given, given_by_parts}
use Rattle.amm_names.specs.Names.{Name}
use Rattle.amm_model.proofs.Problems.{before-apart, none_given}
use Rattle.amm_model.specs.Legs.{Delivers}
use Rattle.amm_model.specs.Paths.{AreApart, IsPath, gives, hop_places, legs_along}
use Rattle.amm_model.specs.Values.{sixteenths}
use Rattle.amm_legs.specs.Portions.{ArePortions, Portion, given_by, legs_of}
use Rattle.amm_legs.proofs.Portions.{portions-legal}
use Rattle.amm_graph.specs.declared.path.Path.{Path}
use Rattle.amm_split.specs.declared.sizes.BestWay.{BestWay}
use Rattle.amm_split.specs.declared.deliveries.Delivery.{Delivery}
use Rattle.amm_split.specs.Deliveries.{HasNoWay, IsBestOfWays}
use Rattle.amm_split.specs.Sizes.{IsGiven, IsWayOf, gives_by}

free : (ps : List ℕ) → AreApart ps []
free ps i d inside j e below = absurd (omega arith)

turned : (ps qs : List ℕ) → AreApart ps qs → AreApart qs ps
turned ps qs apart j e below i d inside same = apart i d inside j e below (sym same)

-- some sixteenths are no more than the whole
pub sixteenths-le : (d k : ℕ) → k ≤ 16 → sixteenths d k ≤ d
sixteenths-le d k small = go (16 - k) (omega arith)
  where
    go : (rest : ℕ) → k + rest ≡ 16 → sixteenths d k ≤ d
    go rest e = let whole = ap (λ (n : ℕ). d * n) e in omega arith

pub eq-self : (y : Name) → bytes_eq y y ≡ true
eq-self y = (bytes_eq-Decides y y).1 refl

pub not-same : (a b : Name) → a ≢ b → bytes_eq a b ≡ false
not-same a b apart = pick (bytes_eq a b) (bytes_eq-Decides a b).0
  where
    pick : (c : Bool) → (c ≡ true → a ≡ b) → c ≡ false
    pick true says = absurd (apart (says refl))
    pick false says = refl

-- of the token of a part its amount is given
pub given-at : (parts : List Part) (i : ℕ) (d : Part) → i < length parts → AllPairs (λ (a b : Part). IsBefore a.token b.token) parts →
    given_by_parts parts (get_or parts i d).token ≡ (get_or parts i d).amount
given-at [] i d below rising = absurd (omega arith)
given-at (part ∷ parts) zero d below rising = ap (λ (b : Bool). cond b part.amount (given_by_parts parts part.token)) (eq-self part.token)
given-at (part ∷ parts) (suc i) d below rising =
    let apart = before-apart part.token (get_or parts i d).token (rising 0 (suc i) d (omega arith) below) in
    ap (λ (b : Bool). cond b part.amount (given_by_parts parts (get_or parts i d).token)) (not-same (get_or parts i d).token part.token (λ e. apart (sym e)))
    ∙ given-at parts i d (omega arith) (λ a b e ab under. rising (suc a) (suc b) e (omega arith) (omega arith))

pub given-of : (problem : OpenView) (part : Part) → IsOpenProblem problem → Contains problem.parts part → amount_given problem part.token ≡ part.amount
given-of problem part sound (i, below, is) =
    subst (λ (p : Part). amount_given problem p.token ≡ p.amount) is (given-at problem.parts i part below sound.parts.rising)

-- portions out of a part deliver what they give
part-delivers : (problem : OpenView) (part : Part) (portions : List Portion) → IsOpenProblem problem → Contains problem.parts part →
    ArePortions problem.pools part.token problem.t [] part.amount portions → Delivers problem (legs_of problem.pools portions) (given_by problem.pools portions)
part-delivers problem part portions sound there are =
    let enough = given-of problem part sound there in
    let none = none_given problem.parts problem.t sound.parts.apart in
    let ends = All-contains (λ (p : Part). p.token ≢ problem.t) problem.parts part sound.parts.apart there in
    let legal = portions-legal problem.pools part.token problem.t [] [] part.amount (amount_given problem) portions ends (λ p all. all) (omega arith) are in
    (legal.0, omega (arith, legal.1))

-- one path
pub one-delivers : (problem : OpenView) (part : Part) (path : List Hop) (x amount : ℕ) (legs : List Leg) → IsOpenProblem problem → Contains problem.parts part →
    IsPath problem.pools part.token problem.t path → x ≤ part.amount → 1 ≤ amount → amount ≡ gives problem.pools path x → legs ≡ legs_along problem.pools path x → Delivers problem legs amount
one-delivers problem part path x amount legs sound there is within some given are =
    let portions : List Portion = record { path = path; input = x } ∷ [] in
    let deliver = part-delivers problem part portions sound there (is, free (hop_places path), within, omega (arith, given), tt) in
    let sum : given_by problem.pools portions ≡ amount = omega (arith, given, sum_by-cons (λ (portion : Portion). gives problem.pools portion.path portion.input) (record { path = path; input = x }) []) in
    subst (λ (l : List Leg). Delivers problem l amount) (append-nil (legs_along problem.pools path x) ∙ sym are)
    (subst (λ (n : ℕ). Delivers problem (legs_of problem.pools portions) n) sum deliver)

-- two paths without a common pool
pub two-deliver : (problem : OpenView) (part : Part) (first second : List Hop) (x y amount : ℕ) (legs : List Leg) → IsOpenProblem problem → Contains problem.parts part →
    IsPath problem.pools part.token problem.t first → IsPath problem.pools part.token problem.t second → AreApart (hop_places first) (hop_places second) →
    x ≤ part.amount → y ≤ part.amount - x → 1 ≤ gives problem.pools first x → 1 ≤ gives problem.pools second y → amount ≡ gives problem.pools first x + gives problem.pools second y →
    legs ≡ legs_along problem.pools first x ++ legs_along problem.pools second y → Delivers problem legs amount
two-deliver problem part first second x y amount legs sound there is-first is-second apart within rest some-first some-second given are =
    let portions : List Portion = record { path = first; input = x } ∷ record { path = second; input = y } ∷ [] in
    let deliver = part-delivers problem part portions sound there
    (is-first, free (hop_places first), within, some-first, (is-second, turned (hop_places first) (hop_places second) apart, rest, some-second, tt)) in
    let sum : given_by problem.pools portions ≡ amount = omega (
      arith,
      given,
      sum_by-cons (λ (portion : Portion). gives problem.pools portion.path portion.input) (record { path = first; input = x }) (record { path = second; input = y } ∷ []),
      sum_by-cons (λ (portion : Portion). gives problem.pools portion.path portion.input) (record { path = second; input = y }) [],
    ) in
    let joined : legs_of problem.pools portions ≡ legs = ap (λ (l : List Leg). legs_along problem.pools first x ++ l) (append-nil (legs_along problem.pools second y)) ∙ sym are in
    subst (λ (l : List Leg). Delivers problem l amount) joined (subst (λ (n : ℕ). Delivers problem (legs_of problem.pools portions) n) sum deliver)

-- a way that gives something is one of the list's
pub the_way : (pools : List ProblemPool) (paths : List Path) (d : ℕ) (way : BestWay) → (way.amount ≡ 0) ⊎ IsWayOf pools paths d way → (way.amount ≡ 0 → ⊥) → IsWayOf pools paths d way
the_way pools paths d way (inl none) some = absurd (some none)
the_way pools paths d way (inr is) some = is

pub given_some : (pools : List ProblemPool) (paths : List Path) (d : ℕ) (way : BestWay) (second : ℕ) → way.second ≡ Some second → IsWayOf pools paths d way → IsGiven pools paths d way.k way.first way.amount (Some second)
given_some pools paths d way second is of = subst (λ (o : Option ℕ). IsGiven pools paths d way.k way.first way.amount o) is of.is

pub given_none : (pools : List ProblemPool) (paths : List Path) (d : ℕ) (way : BestWay) → way.second ≡ None → IsWayOf pools paths d way → way.amount ≡ gives_by pools paths way.first (sixteenths d way.k)
given_none pools paths d way is of = subst (λ (o : Option ℕ). IsGiven pools paths d way.k way.first way.amount o) is of.is

pub none_of : (o : Option ℕ) → ((n : ℕ) → o ≡ Some n → ⊥) → o ≡ None
none_of None other = refl
none_of (Some n) other = absurd (other n refl)

pub found_some : (problem : OpenView) (part : Part) (o : Option Delivery) (found : Delivery) → o ≡ Some found → MatchOption o (HasNoWay problem part) (λ (f : Delivery). IsBestOfWays problem part f) → IsBestOfWays problem part found
found_some problem part o found is of = subst (λ (q : Option Delivery). MatchOption q (HasNoWay problem part) (λ (f : Delivery). IsBestOfWays problem part f)) is of

pub found_none : (problem : OpenView) (part : Part) (o : Option Delivery) → ((f : Delivery) → o ≡ Some f → ⊥) → MatchOption o (HasNoWay problem part) (λ (f : Delivery). IsBestOfWays problem part f) → HasNoWay problem part
found_none problem part None other of = of
found_none problem part (Some f) other of = absurd (other f refl)

-- no legs deliver nothing
pub nothing-delivers : (problem : OpenView) → IsOpenProblem problem → Delivers problem [] 0
nothing-delivers problem sound = (tt, sym (none_given problem.parts problem.t sound.parts.apart))
