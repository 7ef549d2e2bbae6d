-- What stands at the places of tokens, before the first leg and after one more.
use Rattle.std.proofs.Common.{◌≡◌, ℕ, ◌+◌, ◌-◌, ◌<◌, inl, inr, Bool, true, false, cond, nat_eq, List, length, arith, refl, ap, subst, ◌∙◌, get_or, set}
use Rattle.std.proofs.lemmas.Bool.{cases_lt}
use Rattle.std.proofs.lemmas.Bool.Decides.{nat_tests}
use Rattle.std.proofs.lemmas.List.{get_or-replicate, get_or-set_same, get_or-set_other}
use Rattle.std.proofs.Math.ListN.{replicate, length-replicate, length-set, get_or-eq_default}

-- one place is set
pub read_set : (xs : List ℕ) (i y j : ℕ) → i < length xs → get_or (set xs i y) j 0 ≡ cond (nat_eq j i) y (get_or xs j 0)
read_set xs i y j inside = pick (nat_eq j i) refl
  where
    pick : (b : Bool) → nat_eq j i ≡ b → get_or (set xs i y) j 0 ≡ cond b y (get_or xs j 0)
    pick true e =
        let same : i ≡ j = grind (arith, nat_tests) in
        subst (λ (k : ℕ). get_or (set xs i y) k 0 ≡ y) same (get_or-set_same xs i y 0 inside)
    pick false e = get_or-set_other xs i j y 0 (grind (arith, nat_tests))

-- an amount goes from one place to another
pub moved : (held : List ℕ) (from to input output j : ℕ) → from < length held → to < length held →
    get_or (set (set held from (get_or held from 0 - input)) to (get_or (set held from (get_or held from 0 - input)) to 0 + output)) j 0
    ≡ (get_or held j 0 - cond (nat_eq j from) input 0) + cond (nat_eq j to) output 0
moved held from to input output j from-in to-in =
    let less = set held from (get_or held from 0 - input) in
    let inside : to < length less = rw (length-set held from (get_or held from 0 - input)) to-in in
    read_set less to (get_or less to 0 + output) j inside
    ∙ ap (λ (n : ℕ). cond (nat_eq j to) (n + output) (get_or less j 0)) (read_set held from (get_or held from 0 - input) to from-in)
    ∙ ap (λ (n : ℕ). cond (nat_eq j to) (cond (nat_eq to from) (get_or held from 0 - input) (get_or held to 0) + output) n) (read_set held from (get_or held from 0 - input) j from-in)
    ∙ pick (nat_eq j to) (nat_eq j from) (nat_eq to from) refl refl refl
  where
    pick : (a b c : Bool) → nat_eq j to ≡ a → nat_eq j from ≡ b → nat_eq to from ≡ c →
        cond a (cond c (get_or held from 0 - input) (get_or held to 0) + output) (cond b (get_or held from 0 - input) (get_or held j 0))
        ≡ (get_or held j 0 - cond b input 0) + cond a output 0
    pick true true true at_to at_from same = let e : j ≡ from = grind (arith, nat_tests) in let h : get_or held j 0 ≡ get_or held from 0 = ap (λ (k : ℕ). get_or held k 0) e in omega arith
    pick true true false at_to at_from same = absurd (grind (arith, nat_tests))
    pick true false true at_to at_from same = absurd (grind (arith, nat_tests))
    pick true false false at_to at_from same = let e : j ≡ to = grind (arith, nat_tests) in let h : get_or held j 0 ≡ get_or held to 0 = ap (λ (k : ℕ). get_or held k 0) e in omega arith
    pick false true c at_to at_from same = let e : j ≡ from = grind (arith, nat_tests) in let h : get_or held j 0 ≡ get_or held from 0 = ap (λ (k : ℕ). get_or held k 0) e in omega arith
    pick false false c at_to at_from same = omega arith

-- one value everywhere
pub read_replicate : {X : Type 0} (n j : ℕ) (x : X) → get_or (replicate n x) j x ≡ x
read_replicate n j x = elim (cases_lt j n) [
  | inl below ↦ get_or-replicate n j x x below
  | inr past ↦ get_or-eq_default (replicate n x) x (omega (arith, length-replicate n x))
]
