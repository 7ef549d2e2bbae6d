-- The worths after moves of two tokens, from those after each and the pools of both.
use Rattle.std.proofs.Common.{◌≡◌, ◌≢◌, ℕ, ◌+◌, ◌-◌, ◌*◌, ◌/◌, ◌<◌, ◌≤◌, ◌^◌, ◌⊎◌, inl, inr, Bool, true, false, nat_eq, List, length, map, take, arith, ap, sym, subst, refl, ◌∙◌, get_or, set, get_or-set_same, get_or-set_other}
use Rattle.std.specs.Prelude.{sum_by}
use Rattle.std.proofs.Math.ListN.{length-map, length-set}
use Rattle.std.proofs.lemmas.Bool.Decides.{nat_tests}
use Rattle.std.proofs.lemmas.List.{set_comm, take_all}
use Rattle.std.proofs.lemmas.List.Sums.{sum_by_more}
use Rattle.amm_model.specs.declared.problem.ProblemPool.{ProblemPool}
use Rattle.amm_model.specs.declared.problem.TokenPlaces.{TokenPlaces}
use Rattle.amm_model.specs.Routing.{OpenView, no_pool, places_of}
use Rattle.amm_model.specs.Bound.{pool_worth}
use Rattle.amm_model.proofs.Sums.{sum_by-plus}
use Rattle.amm_dual.specs.declared.changes.Changes.{Changes}
use Rattle.amm_dual.specs.declared.running.Balance.{Balance}
use Rattle.amm_dual.specs.declared.singles.Single.{Single}
use Rattle.amm_dual.specs.Nexts.{Lacks}
use Rattle.amm_dual.specs.Running.{after}
use Rattle.amm_dual.specs.Singles.{AreSingles, IsNextShared, IsShared, IsSingle, no_single, worths_apart, worths_at, worths_joined}
use Rattle.amm_dual.proofs.Skips.{skipped}
use Rattle.amm_dual.proofs.Worths.{place-at, same_worth}

straight : (a b c d : ℕ) → c ≡ a → b ≡ d → a + b ≡ c + d
straight a b c d one two = omega arith

crossed : (a b c d : ℕ) → c ≡ b → a ≡ d → a + b ≡ c + d
crossed a b c d one two = omega arith

-- a pool that lacks one of two changed tokens
alike : (problem : OpenView) (prices : List ℕ) (changes : Changes) (k : ℕ) → k < length problem.pools → changes.first.place ≢ changes.second.place →
    Lacks (map (places_of problem.tokens) problem.pools) changes.first.place k ⊎ Lacks (map (places_of problem.tokens) problem.pools) changes.second.place k →
    worths_apart problem prices changes (get_or problem.pools k no_pool) ≡ worths_joined problem prices changes (get_or problem.pools k no_pool)
alike problem prices changes k below apart (inl lack) =
    let tokens = problem.tokens in
    let pool = get_or problem.pools k no_pool in
    let at = place-at tokens problem.pools (map (places_of tokens) problem.pools) k below refl in
    let zero-is = ap (λ (p : TokenPlaces). p.zero) at in
    let one-is = ap (λ (p : TokenPlaces). p.one) at in
    let joined = ap (λ (ps : List ℕ). pool_worth tokens ps pool) (set_comm prices changes.first.place changes.second.place changes.first.price changes.second.price apart)
    ∙ same_worth tokens (set prices changes.second.place changes.second.price) changes.first.place changes.first.price pool (λ e. lack.zero (zero-is ∙ e)) (λ e. lack.one (one-is ∙ e)) in
    let alone = same_worth tokens prices changes.first.place changes.first.price pool (λ e. lack.zero (zero-is ∙ e)) (λ e. lack.one (one-is ∙ e)) in
    crossed (pool_worth tokens (set prices changes.first.place changes.first.price) pool) (pool_worth tokens (set prices changes.second.place changes.second.price) pool)
    (pool_worth tokens (after prices changes) pool) (pool_worth tokens prices pool) joined alone
alike problem prices changes k below apart (inr lack) =
    let tokens = problem.tokens in
    let pool = get_or problem.pools k no_pool in
    let at = place-at tokens problem.pools (map (places_of tokens) problem.pools) k below refl in
    let zero-is = ap (λ (p : TokenPlaces). p.zero) at in
    let one-is = ap (λ (p : TokenPlaces). p.one) at in
    let joined = same_worth tokens (set prices changes.first.place changes.first.price) changes.second.place changes.second.price pool (λ e. lack.zero (zero-is ∙ e)) (λ e. lack.one (one-is ∙ e)) in
    let alone = same_worth tokens prices changes.second.place changes.second.price pool (λ e. lack.zero (zero-is ∙ e)) (λ e. lack.one (one-is ∙ e)) in
    straight (pool_worth tokens (set prices changes.first.place changes.first.price) pool) (pool_worth tokens (set prices changes.second.place changes.second.price) pool)
    (pool_worth tokens (after prices changes) pool) (pool_worth tokens prices pool) joined alone

-- nothing yet
pub shared-first : (problem : OpenView) (prices : List ℕ) (changes : Changes) → IsShared problem prices changes 0 (record { gained = 0; lost = 0 })
shared-first problem prices changes = record { even = refl; few_gained = omega arith; few_lost = omega arith }

-- up to the next pool that may have both
pub shared-next : (problem : OpenView) (prices : List ℕ) (changes : Changes) (i next : ℕ) (balance : Balance) → changes.first.place ≢ changes.second.place →
    IsNextShared (map (places_of problem.tokens) problem.pools) changes.first.place changes.second.place i next → IsShared problem prices changes i balance → IsShared problem prices changes next balance
shared-next problem prices changes i next balance apart is was =
    let low = is.after in
    let high = is.within in
    let many = length-map problem.pools (places_of problem.tokens) in
    let few-gained = was.few_gained in
    let few-lost = was.few_lost in
    let reach : i + (next - i) ≡ next = omega arith in
    record {
      even = subst (λ (n : ℕ). balance.gained + sum_by (worths_apart problem prices changes) (take n problem.pools) ≡ balance.lost + sum_by (worths_joined problem prices changes) (take n problem.pools)) reach
          (skipped (worths_apart problem prices changes) (worths_joined problem prices changes) problem.pools balance.gained balance.lost i (next - i) (omega arith)
          (λ k from to. alike problem prices changes k (omega arith) apart (is.none k from (omega arith))) was.even);
      few_gained = omega arith;
      few_lost = omega arith;
    }

-- a pool more
pub shared-more : (problem : OpenView) (prices : List ℕ) (changes : Changes) (i : ℕ) (balance : Balance) (now joined one other : ℕ) → i < length problem.pools →
    now ≡ pool_worth problem.tokens prices (get_or problem.pools i no_pool) → joined ≡ pool_worth problem.tokens (after prices changes) (get_or problem.pools i no_pool) →
    one ≡ pool_worth problem.tokens (set prices changes.first.place changes.first.price) (get_or problem.pools i no_pool) →
    other ≡ pool_worth problem.tokens (set prices changes.second.place changes.second.price) (get_or problem.pools i no_pool) →
    now < 2 ^ 99 → joined < 2 ^ 99 → one < 2 ^ 99 → other < 2 ^ 99 → IsShared problem prices changes i balance →
    IsShared problem prices changes (i + 1) (record { gained = balance.gained + (joined + now); lost = balance.lost + (one + other) })
shared-more problem prices changes i balance now joined one other below now-is joined-is one-is other-is now-lt joined-lt one-lt other-lt was =
    let more-apart = sum_by_more (worths_apart problem prices changes) problem.pools i no_pool below in
    let more-joined = sum_by_more (worths_joined problem prices changes) problem.pools i no_pool below in
    let even = was.even in
    let few-gained = was.few_gained in
    let few-lost = was.few_lost in
    record { even = omega arith; few_gained = omega arith; few_lost = omega arith }

-- over all pools
pub shared-all : (problem : OpenView) (prices : List ℕ) (changes : Changes) (i one other now : ℕ) (balance : Balance) → length problem.pools ≤ i →
    one ≡ worths_at problem (set prices changes.first.place changes.first.price) → other ≡ worths_at problem (set prices changes.second.place changes.second.price) → now ≡ worths_at problem prices →
    IsShared problem prices changes i balance → one + other + balance.gained ≡ balance.lost + (worths_at problem (after prices changes) + now)
shared-all problem prices changes i one other now balance past one-is other-is now-is was =
    let whole : balance.gained + sum_by (worths_apart problem prices changes) problem.pools ≡ balance.lost + sum_by (worths_joined problem prices changes) problem.pools =
    subst (λ (pools : List ProblemPool). balance.gained + sum_by (worths_apart problem prices changes) pools ≡ balance.lost + sum_by (worths_joined problem prices changes) pools)
    (take_all i problem.pools past) was.even in
    let apart = sum_by-plus (pool_worth problem.tokens (set prices changes.first.place changes.first.price)) (pool_worth problem.tokens (set prices changes.second.place changes.second.price)) problem.pools in
    let joined = sum_by-plus (pool_worth problem.tokens (after prices changes)) (pool_worth problem.tokens prices) problem.pools in
    omega (arith, one-is, other-is, now-is, whole, apart, joined)

-- one more is kept
pub singles-more : (problem : OpenView) (prices : List ℕ) (singles : List Single) (place slot price worths : ℕ) → slot < 32 → worths ≡ worths_at problem (set prices place price) → worths < 2 ^ 107 + 1 →
    AreSingles problem prices singles → AreSingles problem prices (set singles (place * 32 + slot) (record { price = price; worths = worths }))
singles-more problem prices singles place slot price worths slot-lt is below were = record {
  many = length-set singles (place * 32 + slot) _ ∙ were.many;
  each = λ j lt. pick j (omega (arith, lt, length-set singles (place * 32 + slot) (the_single price worths))) (nat_eq j (place * 32 + slot)) refl;
}
  where
    the_single : ℕ → ℕ → Single
    the_single p w = record { price = p; worths = w }

    pick : (j : ℕ) → j < length singles → (b : Bool) → nat_eq j (place * 32 + slot) ≡ b → IsSingle problem prices (j / 32) (get_or (set singles (place * 32 + slot) (record { price = price; worths = worths })) j no_single)
    pick j lt true e =
        let same : j ≡ place * 32 + slot = grind (arith, nat_tests) in
        let inside : place * 32 + slot < length singles = omega (arith, lt, same) in
        let whose : j / 32 ≡ place = omega (arith, same, slot-lt) in
        subst (λ (s : Single). IsSingle problem prices (j / 32) s)
        (sym (ap (λ (k : ℕ). get_or (set singles (place * 32 + slot) (record { price = price; worths = worths })) k no_single) same ∙ get_or-set_same singles (place * 32 + slot) _ no_single inside))
        (record { worths = λ some. subst (λ (p : ℕ). worths ≡ worths_at problem (set prices p price)) (sym whose) is; below = below })
    pick j lt false e =
        let apart : j ≢ place * 32 + slot = grind (arith, nat_tests) in
        subst (λ (s : Single). IsSingle problem prices (j / 32) s) (sym (get_or-set_other singles (place * 32 + slot) j _ no_single apart)) (were.each j lt)

-- nothing is kept
pub singles-none : (problem : OpenView) (prices : List ℕ) (singles : List Single) → length singles ≡ 32 * length problem.tokens → ((j : ℕ) → j < length singles → get_or singles j no_single ≡ no_single) →
    AreSingles problem prices singles
singles-none problem prices singles many none = record {
  many = many;
  each = λ j lt. subst (λ (s : Single). IsSingle problem prices (j / 32) s) (sym (none j lt)) (record { worths = λ some. absurd (omega arith); below = omega arith });
}
