-- The legs of portions are a leg-by-leg route that delivers what the portions give.
use Rattle.std.proofs.Common.{◌≡◌, ◌≢◌, ℕ, ◌+◌, ◌-◌, ◌<◌, ◌≤◌, ◌^◌, ◌++◌, Bool, true, false, cond, List, [], ◌∷◌, length, arith, zero, suc, subst, ap, sym, refl, get_or, ◌∙◌}
use Rattle.std.specs.Prelude.{All, AllPairs, nat_lt}
use Rattle.std.specs.Str.{bytes_eq}
use Rattle.std.proofs.lemmas.Slice.Eq.{bytes_eq-Decides}
use Rattle.std.proofs.Math.Nat.{mul-zero, zero-mul, zero-div}
use Rattle.std.proofs.lemmas.Bool.{ltb-true}
use Rattle.std.proofs.lemmas.List.Sums.{sum_by-cons}
use Rattle.amm_model.specs.declared.problem.ProblemPool.{ProblemPool}
use Rattle.amm_model.specs.declared.route.Hop.{Hop}
use Rattle.amm_model.specs.declared.route.Leg.{Leg}
use Rattle.amm_model.specs.Swap.{amount_out_of}
use Rattle.amm_model.specs.Routing.{ProblemView, amount_given, no_pool, fee_of, open_view}
use Rattle.amm_names.specs.Names.{Name}
use Rattle.amm_model.specs.Legs.{Inventory, IsAdmissible, IsLeg, AreLegs, Delivers, after_leg, after_legs, used_after}
use Rattle.amm_model.specs.Paths.{hop_from, hop_to, hop_gives, IsHop, Leads, AreApart, hop_places, gives, leg_of_hop, legs_along}
use Rattle.amm_legs.specs.Portions.{Portion, ArePortions, legs_of, given_by}

-- nothing in, nothing out
nothing-out : (fee rin rout : ℕ) → amount_out_of fee 0 rin rout ≡ 0
nothing-out fee rin rout = simp (mul-zero, zero-mul, zero-div)

either-zero : (b c : Bool) (v : ℕ) → v ≡ 0 → cond b (cond c v 0) 0 ≡ 0
either-zero true true v e = e
either-zero true false v e = refl
either-zero false c v e = refl

hop_gives-zero : (pools : List ProblemPool) (hop : Hop) → hop_gives pools hop 0 ≡ 0
hop_gives-zero pools hop = pick hop.zero_in _ _ _ _ (nothing-out _ _ _) (nothing-out _ _ _)
  where
    pick : (z b c : Bool) (v w : ℕ) → v ≡ 0 → w ≡ 0 → cond z (cond b v 0) (cond c w 0) ≡ 0
    pick true b c v w e f = either-zero true b v e
    pick false b c v w e f = either-zero true c w f

pub gives-zero : (pools : List ProblemPool) (hops : List Hop) → gives pools hops 0 ≡ 0
gives-zero pools [] = refl
gives-zero pools (hop ∷ hops) = ap (gives pools hops) (hop_gives-zero pools hop) ∙ gives-zero pools hops

gives-some : (pools : List ProblemPool) (hops : List Hop) (x : ℕ) → 1 ≤ gives pools hops x → 1 ≤ x
gives-some pools hops zero some = let e = gives-zero pools hops in omega arith
gives-some pools hops (suc x) some = omega arith

-- a number that a test lets through
let-through : (a b v : ℕ) → 1 ≤ cond (nat_lt a b) v 0 → (a < b) × (cond (nat_lt a b) v 0 ≡ v)
let-through a b v some = pick (nat_lt a b) (ltb-true a b) some
  where
    pick : (t : Bool) → (t ≡ true → a < b) → 1 ≤ cond t v 0 → (a < b) × (cond t v 0 ≡ v)
    pick true says some = (says refl, refl)
    pick false says some = absurd (omega arith)

-- a hop that gives something is a leg
hop_leg : (pools : List ProblemPool) (used : List ℕ) (held : Inventory) (hop : Hop) (x : ℕ) → IsHop pools hop →
    All (λ (q : ℕ). q ≢ hop.pool) used → x ≤ held (hop_from pools hop) → 1 ≤ x → 1 ≤ hop_gives pools hop x → IsLeg pools used held (leg_of_hop pools hop x)
hop_leg pools used held hop x is unused within positive some = by_side hop.pool hop.zero_in is.there is.admissible unused within some
  where
    by_side : (place : ℕ) (zero_in : Bool) → (let h : Hop = record { pool = place; zero_in = zero_in } in
        place < length pools → IsAdmissible (get_or pools place no_pool) → All (λ (q : ℕ). q ≢ place) used → x ≤ held (hop_from pools h) →
        1 ≤ hop_gives pools h x → IsLeg pools used held (leg_of_hop pools h x))
    by_side place true there admissible unused within some =
        let passed = let-through ((get_or pools place no_pool).b0 + x) (2 ^ 48) (amount_out_of (fee_of (get_or pools place no_pool)) x (get_or pools place no_pool).r0 (get_or pools place no_pool).r1) some in
        record { there = there; admissible = admissible; unused = unused; positive = positive; within = within; room = passed.0; gives = some; pays = passed.1 }
    by_side place false there admissible unused within some =
        let passed = let-through ((get_or pools place no_pool).b1 + x) (2 ^ 48) (amount_out_of (fee_of (get_or pools place no_pool)) x (get_or pools place no_pool).r1 (get_or pools place no_pool).r0) some in
        record { there = there; admissible = admissible; unused = unused; positive = positive; within = within; room = passed.0; gives = some; pays = passed.1 }

eq-self : (y : Name) → bytes_eq y y ≡ true
eq-self y = (bytes_eq-Decides y y).1 refl

not-same : (a b : Name) → a ≢ b → bytes_eq a b ≡ false
not-same a b apart = pick (bytes_eq a b) (bytes_eq-Decides a b).0
  where
    pick : (c : Bool) → (c ≡ true → a ≡ b) → c ≡ false
    pick true says = absurd (apart (says refl))
    pick false says = refl

-- what goes in at a token and comes out at the same
in-and-out : (h x : ℕ) (b : Bool) → (b ≡ true → x ≤ h) → h ≡ (h - cond b x 0) + cond b x 0
in-and-out h x true within = let l = within refl in omega arith
in-and-out h x false within = omega arith

within-at : (held : Inventory) (first y : Name) (x : ℕ) → x ≤ held first → bytes_eq y first ≡ true → x ≤ held y
within-at held first y x within e = subst (λ (t : Name). x ≤ held t) (sym ((bytes_eq-Decides y first).0 e)) within

-- what is held after the legs of a path: less of the first token, more of the last
path-after : (pools : List ProblemPool) (held : Inventory) (first last : Name) (hops : List Hop) (x : ℕ) → Leads pools first hops last → x ≤ held first → (y : Name) →
    after_legs pools held (legs_along pools hops x) y ≡ (held y - cond (bytes_eq y first) x 0) + cond (bytes_eq y last) (gives pools hops x) 0
path-after pools held first last [] x leads within y =
    subst (λ (l : Name). held y ≡ (held y - cond (bytes_eq y first) x 0) + cond (bytes_eq y l) x 0) leads
    (in-and-out (held y) x (bytes_eq y first) (within-at held first y x within))
path-after pools held first last (hop ∷ hops) x leads within y =
    let middle = after_leg pools held (leg_of_hop pools hop x) in
    let got : middle (hop_to pools hop) ≡ (held (hop_to pools hop) - cond (bytes_eq (hop_to pools hop) (hop_from pools hop)) x 0) + cond (bytes_eq (hop_to pools hop) (hop_to pools hop)) (hop_gives pools hop x) 0 = refl in
    let whole : cond (bytes_eq (hop_to pools hop) (hop_to pools hop)) (hop_gives pools hop x) 0 ≡ hop_gives pools hop x = ap (λ (b : Bool). cond b (hop_gives pools hop x) 0) (eq-self (hop_to pools hop)) in
    let rest = path-after pools middle (hop_to pools hop) last hops (hop_gives pools hop x) leads.1 (omega arith) y in
    let here : middle y ≡ (held y - cond (bytes_eq y (hop_from pools hop)) x 0) + cond (bytes_eq y (hop_to pools hop)) (hop_gives pools hop x) 0 = refl in
    let start : cond (bytes_eq y (hop_from pools hop)) x 0 ≡ cond (bytes_eq y first) x 0 = ap (λ (n : Name). cond (bytes_eq y n) x 0) leads.0 in
    omega arith

turn-apart : (p : ℕ) (qs : List ℕ) → All (λ (q : ℕ). p ≢ q) qs → All (λ (q : ℕ). q ≢ p) qs
turn-apart p qs apart k d below e = apart k d below (sym e)

apart-cons : (p q : ℕ) (qs : List ℕ) → p ≢ q → All (λ (r : ℕ). p ≢ r) qs → All (λ (r : ℕ). p ≢ r) (q ∷ qs)
apart-cons p q qs here rest zero d below = here
apart-cons p q qs here rest (suc k) d below = rest k d (omega arith)

-- the legs of a path that gives something, over pools not used
path-legal : (pools : List ProblemPool) (used : List ℕ) (held : Inventory) (first last : Name) (hops : List Hop) (x : ℕ) →
    All (IsHop pools) hops → AllPairs (λ (a b : ℕ). a ≢ b) (hop_places hops) → AreApart (hop_places hops) used → Leads pools first hops last → x ≤ held first →
    1 ≤ gives pools hops x → AreLegs pools used held (legs_along pools hops x)
path-legal pools used held first last [] x over different apart leads within some = tt
path-legal pools used held first last (hop ∷ hops) x over different apart leads within some =
    let middle = after_leg pools held (leg_of_hop pools hop x) in
    let output = gives-some pools hops (hop_gives pools hop x) some in
    let within-here : x ≤ held (hop_from pools hop) = subst (λ (n : Name). x ≤ held n) (sym leads.0) within in
    let got : middle (hop_to pools hop) ≡ (held (hop_to pools hop) - cond (bytes_eq (hop_to pools hop) (hop_from pools hop)) x 0) + cond (bytes_eq (hop_to pools hop) (hop_to pools hop)) (hop_gives pools hop x) 0 = refl in
    let whole : cond (bytes_eq (hop_to pools hop) (hop_to pools hop)) (hop_gives pools hop x) 0 ≡ hop_gives pools hop x = ap (λ (b : Bool). cond b (hop_gives pools hop x) 0) (eq-self (hop_to pools hop)) in (
      hop_leg pools used held hop x (over 0 hop (omega arith)) (turn-apart hop.pool used (apart 0 0 (omega arith))) within-here (gives-some pools (hop ∷ hops) x some) output,
      path-legal pools (hop.pool ∷ used) middle (hop_to pools hop) last hops (hop_gives pools hop x) (λ k d below. over (suc k) d (omega arith))
          (λ i j d ij below. different (suc i) (suc j) d (omega arith) (omega arith))
          (λ k d below. apart-cons (get_or (hop_places hops) k d) hop.pool used (λ e. different 0 (suc k) d (omega arith) (omega arith) (sym e)) (apart (suc k) d (omega arith)))
          leads.1 (omega arith) some,
    )

-- lists of legs one after the other
legs-append : (pools : List ProblemPool) (used : List ℕ) (held : Inventory) (a b : List Leg) → AreLegs pools used held a →
    AreLegs pools (used_after used a) (after_legs pools held a) b → AreLegs pools used held (a ++ b)
legs-append pools used held [] b first second = second
legs-append pools used held (leg ∷ a) b first second = (first.0, legs-append pools (leg.pool ∷ used) (after_leg pools held leg) a b first.1 second)

after-append : (pools : List ProblemPool) (held : Inventory) (a b : List Leg) → after_legs pools held (a ++ b) ≡ after_legs pools (after_legs pools held a) b
after-append pools held [] b = refl
after-append pools held (leg ∷ a) b = after-append pools (after_leg pools held leg) a b

-- a place apart from a path's pools and from those used before is apart from those used after it
used-path : (pools : List ProblemPool) (used : List ℕ) (hops : List Hop) (x p : ℕ) → All (λ (q : ℕ). p ≢ q) used → All (λ (q : ℕ). p ≢ q) (hop_places hops) →
    All (λ (q : ℕ). p ≢ q) (used_after used (legs_along pools hops x))
used-path pools used [] x p before path = before
used-path pools used (hop ∷ hops) x p before path =
    used-path pools (hop.pool ∷ used) hops (hop_gives pools hop x) p (apart-cons p hop.pool used (path 0 0 (omega arith)) before) (λ k d below. path (suc k) d (omega arith))

all-left : (p : ℕ) (xs ys : List ℕ) → All (λ (q : ℕ). p ≢ q) (xs ++ ys) → All (λ (q : ℕ). p ≢ q) xs
all-left p [] ys all k d below = absurd (omega arith)
all-left p (a ∷ xs) ys all zero d below = all 0 d (omega arith)
all-left p (a ∷ xs) ys all (suc k) d below = all-left p xs ys (λ i e lt. all (suc i) e (omega arith)) k d (omega arith)

all-right : (p : ℕ) (xs ys : List ℕ) → All (λ (q : ℕ). p ≢ q) (xs ++ ys) → All (λ (q : ℕ). p ≢ q) ys
all-right p [] ys all = all
all-right p (a ∷ xs) ys all = all-right p xs ys (λ i e lt. all (suc i) e (omega arith))

-- portions, where what is used is apart from all that is apart from `used`
pub portions-legal : (pools : List ProblemPool) (s t : Name) (used u : List ℕ) (left : ℕ) (held : Inventory) (portions : List Portion) → s ≢ t →
    ((p : ℕ) → All (λ (q : ℕ). p ≢ q) used → All (λ (q : ℕ). p ≢ q) u) → left ≤ held s → ArePortions pools s t used left portions →
    AreLegs pools u held (legs_of pools portions)
    × (after_legs pools held (legs_of pools portions) t ≡ held t + given_by pools portions)
portions-legal pools s t used u left held [] ends covers enough sound = (tt, omega arith)
portions-legal pools s t used u left held (portion ∷ portions) ends covers enough sound =
    let path = sound.0 in
    let legs = legs_along pools portion.path portion.input in
    let within : portion.input ≤ held s = omega (arith, sound.2) in
    let legal = path-legal pools u held s t portion.path portion.input path.over path.different
    (λ k d below. covers _ (sound.1 k d below)) path.leads within sound.3 in
    let after = path-after pools held s t portion.path portion.input path.leads within in
    let at-s = after s in
    let at-t = after t in
    let ss = eq-self s in
    let tt-same = eq-self t in
    let st = not-same s t ends in
    let ts = not-same t s (λ e. ends (sym e)) in
    let s0 : cond (bytes_eq s s) portion.input 0 ≡ portion.input = ap (λ (b : Bool). cond b portion.input 0) ss in
    let s1 : cond (bytes_eq s t) (gives pools portion.path portion.input) 0 ≡ 0 = ap (λ (b : Bool). cond b (gives pools portion.path portion.input) 0) st in
    let t0 : cond (bytes_eq t s) portion.input 0 ≡ 0 = ap (λ (b : Bool). cond b portion.input 0) ts in
    let t1 : cond (bytes_eq t t) (gives pools portion.path portion.input) 0 ≡ gives pools portion.path portion.input = ap (λ (b : Bool). cond b (gives pools portion.path portion.input) 0) tt-same in
    let rest = portions-legal pools s t (used ++ hop_places portion.path) (used_after u legs) (left - portion.input) (after_legs pools held legs) portions ends
    (λ p all. used-path pools u portion.path portion.input p (covers p (all-left p used (hop_places portion.path) all)) (all-right p used (hop_places portion.path) all))
    (omega arith) sound.4 in
    let joined = ap (λ (h : Inventory). h t) (after-append pools held legs (legs_of pools portions)) in
    let sum = sum_by-cons (λ (q : Portion). gives pools q.path q.input) portion portions in
    (legs-append pools u held legs (legs_of pools portions) legal rest.0, omega (arith, rest.1))

-- the legs of portions out of what the problem brings deliver what the portions give
pub portions-deliver : (problem : ProblemView) (portions : List Portion) → problem.s ≢ problem.t → ArePortions problem.pools problem.s problem.t [] problem.d portions →
    Delivers (open_view problem) (legs_of problem.pools portions) (given_by problem.pools portions)
portions-deliver problem portions ends are =
    let start-s : amount_given (open_view problem) problem.s ≡ problem.d = ap (λ (b : Bool). cond b problem.d 0) (eq-self problem.s) in
    let start-t : amount_given (open_view problem) problem.t ≡ 0 = ap (λ (b : Bool). cond b problem.d 0) (not-same problem.t problem.s (λ e. ends (sym e))) in
    let legal = portions-legal problem.pools problem.s problem.t [] [] problem.d (amount_given (open_view problem)) portions ends (λ p all. all) (omega arith) are in
    (legal.0, omega (arith, legal.1))
