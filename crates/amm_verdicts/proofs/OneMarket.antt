-- Ledgers that differ in their quotes alone have the same problem to split.
use Rattle.std.proofs.Common.{◌≡◌, ◌∙◌, ◌⊎◌, inl, inr, ℕ, zero, suc, List, [], ◌∷◌, refl, sym, ap, subst, arith}
use Rattle.std.specs.Prelude.{◌↔◌, AllPairs, Contains}
use Rattle.amm_names.specs.Names.{Name}
use Rattle.amm_model.specs.declared.problem.ProblemPool.{ProblemPool}
use Rattle.amm_model.specs.declared.route.Quote.{Quote}
use Rattle.amm_model.specs.Ledger.{Ledger}
use Rattle.amm_model.specs.Market.{IsPoolIn, IsProblemIn}
use Rattle.amm_model.specs.Routing.{IsBefore, IsProblemOf, ProblemView}
use Rattle.amm_model.proofs.Problems.{before-apart, before-trans, one_problem}
use Rattle.amm_verdicts.proofs.Requoted.{with_quotes}

-- ---- lists that ascend by names and have the same elements are one list

module _ {X : Type 0} (name : X → Name) where
  abbrev Ascends : List X → Type 0
  Ascends xs = AllPairs (λ (a b : X). IsBefore (name a) (name b)) xs

  first_or_later : (z y : X) (ys : List X) → Ascends (y ∷ ys) → Contains (y ∷ ys) z → (y ≡ z) ⊎ (IsBefore (name y) (name z) × Contains ys z)
  first_or_later z y ys up (zero, below, is) = inl is
  first_or_later z y ys up (suc k, below, is) = inr (subst (λ (x : X). IsBefore (name y) (name x)) is (up 0 (suc k) z (omega arith) (omega arith)), (k, omega arith, is))

  later_ascends : (y : X) (ys : List X) → Ascends (y ∷ ys) → Ascends ys
  later_ascends y ys up i j d ij below = up (suc i) (suc j) d (omega arith) (omega arith)

  later_has : (x y : X) (xs ys : List X) → Ascends (x ∷ xs) → Ascends (y ∷ ys) → x ≡ y → ((z : X) → Contains (x ∷ xs) z → Contains (y ∷ ys) z) → (z : X) → Contains xs z → Contains ys z
  later_has x y xs ys up down first has z (k, below, is) = pick (first_or_later z y ys down (has z (suc k, omega arith, is)))
    where
      later : IsBefore (name x) (name z)
      later = subst (λ (w : X). IsBefore (name x) (name w)) is (up 0 (suc k) z (omega arith) (omega arith))

      pick : (y ≡ z) ⊎ (IsBefore (name y) (name z) × Contains ys z) → Contains ys z
      pick (inl e) = absurd (before-apart (name x) (name z) later (ap name (first ∙ e)))
      pick (inr there) = there.1

  none : (x : X) → Contains [] x → ⊥
  none x (k, below, is) = omega arith

  ascending_same : (xs ys : List X) → Ascends xs → Ascends ys → ((z : X) → Contains xs z ↔ Contains ys z) → xs ≡ ys
  ascending_same [] [] up down same = refl
  ascending_same [] (y ∷ ys) up down same = absurd (none y ((same y).1 (0, omega arith, refl)))
  ascending_same (x ∷ xs) [] up down same = absurd (none x ((same x).0 (0, omega arith, refl)))
  ascending_same (x ∷ xs) (y ∷ ys) up down same =
      let first : x ≡ y = pick (first_or_later x y ys down ((same x).0 (0, omega arith, refl))) (first_or_later y x xs up ((same y).1 (0, omega arith, refl))) in
      let rest : xs ≡ ys = ascending_same xs ys (later_ascends x xs up) (later_ascends y ys down)
      (λ z. (later_has x y xs ys up down first (λ w. (same w).0) z, later_has y x ys xs down up (sym first) (λ w. (same w).1) z)) in
      ap (λ (n : X). n ∷ xs) first ∙ ap (λ (l : List X). y ∷ l) rest
    where
      pick : (y ≡ x) ⊎ (IsBefore (name y) (name x) × Contains ys x) → (x ≡ y) ⊎ (IsBefore (name x) (name y) × Contains xs y) → x ≡ y
      pick (inl e) other = sym e
      pick (inr less) (inl e) = e
      pick (inr less) (inr more) = absurd (before-apart (name x) (name x) (before-trans (name x) (name y) (name x) more.0 less.0) refl)

-- ---- the problem

pool_from : (l : Ledger) (quotes : List Quote) (pool : ProblemPool) → IsPoolIn (with_quotes l quotes) pool → IsPoolIn l pool
pool_from l quotes pool is = record { pair = is.pair; there = is.there; filled = is.filled; as_kept = is.as_kept }

pool_to : (l : Ledger) (quotes : List Quote) (pool : ProblemPool) → IsPoolIn l pool → IsPoolIn (with_quotes l quotes) pool
pool_to l quotes pool is = record { pair = is.pair; there = is.there; filled = is.filled; as_kept = is.as_kept }

pub one_market : (l : Ledger) (quotes : List Quote) (s t : Name) (d : ℕ) (p q : ProblemView) → IsProblemIn l s t d p → IsProblemIn (with_quotes l quotes) s t d q → p ≡ q
one_market l quotes s t d p q of_p of_q = one_problem s t d p.pools p q of_p.sound (subst (λ (pools : List ProblemPool). IsProblemOf s t d pools q) (sym pools) of_q.sound)
  where
    pools : p.pools ≡ q.pools
    pools =
        ascending_same (λ (pool : ProblemPool). pool.name) p.pools q.pools of_p.sound.sound.parts.names of_q.sound.sound.parts.names
        (λ pool. ((λ has. (of_q.pools pool).1 (pool_to l quotes pool ((of_p.pools pool).0 has))), (λ has. (of_p.pools pool).1 (pool_from l quotes pool ((of_q.pools pool).0 has)))))
