-- The sum of the worths of all pools, from those of the pools that a change comes to.
use Rattle.std.proofs.Common.{◌≡◌, ℕ, ◌+◌, ◌-◌, ◌<◌, ◌≤◌, List, length, map, take, arith, ap, sym, subst, refl, ◌∙◌, get_or, set, zero, suc, ◌^◌, ◌*◌, ◌⊎◌, inl, inr}
use Rattle.std.specs.Prelude.{sum_by}
use Rattle.std.proofs.lemmas.List.Sums.{sum_by_more, sum-map}
use Rattle.std.proofs.Math.ListN.{length-map, length-set}
use Rattle.std.proofs.lemmas.List.{take_all, get_or-map}
use Rattle.amm_model.proofs.Problems.{tokens_there}
use Rattle.amm_model.specs.declared.problem.ProblemPool.{ProblemPool}
use Rattle.amm_model.specs.declared.problem.TokenPlaces.{TokenPlaces}
use Rattle.amm_model.specs.Routing.{ArePrices, OpenView, IsOpenProblem, places_of, no_pool}
use Rattle.amm_names.specs.Names.{Name}
use Rattle.amm_model.specs.Bound.{pool_worth}
use Rattle.amm_dual.specs.declared.changes.Changes.{Changes}
use Rattle.amm_dual.specs.declared.running.Balance.{Balance}
use Rattle.amm_dual.specs.Nexts.{IsNext, IsNextOfBoth, Lacks}
use Rattle.amm_dual.specs.Running.{IsBalance, after}
use Rattle.amm_dual.proofs.Worths.{same_worth, place-at, kept-worth-lt}

-- from the end on there is no pool
pub at-end : (places : List TokenPlaces) (token i next : ℕ) → next ≡ length places → length places ≤ i → i ≤ next → IsNext places token i next
at-end places token i next is past low = record { after = low; within = omega (arith, is); none = λ k from to. absurd (omega (arith, is)) }

-- sums that balance go on balancing over pools that two functions value alike
pub skipped : (f g : ProblemPool → ℕ) (pools : List ProblemPool) (gained lost i n : ℕ) → i + n ≤ length pools →
    ((k : ℕ) → i ≤ k → k < i + n → f (get_or pools k no_pool) ≡ g (get_or pools k no_pool)) → gained + sum_by f (take i pools) ≡ lost + sum_by g (take i pools) →
    gained + sum_by f (take (i + n) pools) ≡ lost + sum_by g (take (i + n) pools)
skipped f g pools gained lost i zero within alike balance =
    let none : i + 0 ≡ i = omega arith in
    subst (λ (m : ℕ). gained + sum_by f (take m pools) ≡ lost + sum_by g (take m pools)) (sym none) balance
skipped f g pools gained lost i (suc n) within alike balance =
    let before = skipped f g pools gained lost i n (omega arith) (λ k from to. alike k from (omega arith)) balance in
    let more-f = sum_by_more f pools (i + n) no_pool (omega arith) in
    let more-g = sum_by_more g pools (i + n) no_pool (omega arith) in
    let same = alike (i + n) (omega arith) (omega arith) in
    let next : i + suc n ≡ i + n + 1 = omega arith in
    subst (λ (m : ℕ). gained + sum_by f (take m pools) ≡ lost + sum_by g (take m pools)) (sym next) (omega arith)

-- a pool without the changed tokens is worth as much after the changes
pub worth-kept : (tokens : List Name) (prices : List ℕ) (changes : Changes) (pools : List ProblemPool) (places : List TokenPlaces) (k : ℕ) → places ≡ map (places_of tokens) pools → k < length pools →
    Lacks places changes.first.place k → Lacks places changes.second.place k →
    pool_worth tokens prices (get_or pools k no_pool) ≡ pool_worth tokens (after prices changes) (get_or pools k no_pool)
worth-kept tokens prices changes pools places k are below first second =
    let at = place-at tokens pools places k below are in
    let zero-is = ap (λ (p : TokenPlaces). p.zero) at in
    let one-is = ap (λ (p : TokenPlaces). p.one) at in
    sym (same_worth tokens (set prices changes.first.place changes.first.price) changes.second.place changes.second.price (get_or pools k no_pool) (λ e. second.zero (zero-is ∙ e)) (λ e. second.one (one-is ∙ e))
    ∙ same_worth tokens prices changes.first.place changes.first.price (get_or pools k no_pool) (λ e. first.zero (zero-is ∙ e)) (λ e. first.one (one-is ∙ e)))

-- and so up to the next pool that has one of them
pub balanced : (tokens : List Name) (prices : List ℕ) (changes : Changes) (pools : List ProblemPool) (places : List TokenPlaces) (gained lost i next : ℕ) → places ≡ map (places_of tokens) pools →
    length places ≡ length pools → IsNextOfBoth places changes.first.place changes.second.place i next →
    gained + sum_by (pool_worth tokens prices) (take i pools) ≡ lost + sum_by (pool_worth tokens (after prices changes)) (take i pools) →
    gained + sum_by (pool_worth tokens prices) (take next pools) ≡ lost + sum_by (pool_worth tokens (after prices changes)) (take next pools)
balanced tokens prices changes pools places gained lost i next are many is balance =
    let low = is.after in
    let high = is.within in
    let reach : i + (next - i) ≡ next = omega arith in
    subst (λ (n : ℕ). gained + sum_by (pool_worth tokens prices) (take n pools) ≡ lost + sum_by (pool_worth tokens (after prices changes)) (take n pools)) reach
    (skipped (pool_worth tokens prices) (pool_worth tokens (after prices changes)) pools gained lost i (next - i) (omega arith)
    (λ k from to. let lack = is.none k from (omega arith) in worth-kept tokens prices changes pools places k are (omega arith) lack.0 lack.1) balance)

-- no balance yet
pub balance-first : (problem : OpenView) (prices : List ℕ) (changes : Changes) → IsBalance problem prices changes 0 (record { gained = 0; lost = 0 })
balance-first problem prices changes = record { even = refl; few_gained = omega arith; few_lost = omega arith }

-- a pool more
pub balance-more : (problem : OpenView) (prices : List ℕ) (changes : Changes) (i : ℕ) (balance : Balance) (old new : ℕ) → i < length problem.pools →
    old ≡ pool_worth problem.tokens prices (get_or problem.pools i no_pool) → new ≡ pool_worth problem.tokens (after prices changes) (get_or problem.pools i no_pool) → old < 2 ^ 99 → new < 2 ^ 99 →
    IsBalance problem prices changes i balance → IsBalance problem prices changes (i + 1) (record { gained = balance.gained + new; lost = balance.lost + old })
balance-more problem prices changes i balance old new below old-is new-is old-lt new-lt was =
    let more-old = sum_by_more (pool_worth problem.tokens prices) problem.pools i no_pool below in
    let more-new = sum_by_more (pool_worth problem.tokens (after prices changes)) problem.pools i no_pool below in
    let even = was.even in
    let few-gained = was.few_gained in
    let few-lost = was.few_lost in
    record { even = omega arith; few_gained = omega arith; few_lost = omega arith }

-- up to the next pool that has one of the changed tokens
pub balance-next : (problem : OpenView) (prices : List ℕ) (changes : Changes) (i next : ℕ) (balance : Balance) →
    IsNextOfBoth (map (places_of problem.tokens) problem.pools) changes.first.place changes.second.place i next →
    IsBalance problem prices changes i balance → IsBalance problem prices changes next balance
balance-next problem prices changes i next balance is was =
    let after-is = is.after in
    let few-gained = was.few_gained in
    let few-lost = was.few_lost in
    record {
      even = balanced problem.tokens prices changes problem.pools (map (places_of problem.tokens) problem.pools) balance.gained balance.lost i next refl
          (length-map problem.pools (places_of problem.tokens)) is was.even;
      few_gained = omega arith;
      few_lost = omega arith;
    }

-- over all pools
pub balance-all : (problem : OpenView) (prices : List ℕ) (changes : Changes) (i total : ℕ) (balance : Balance) → length problem.pools ≤ i → total ≡ sum_by (pool_worth problem.tokens prices) problem.pools →
    IsBalance problem prices changes i balance → total + balance.gained ≡ balance.lost + sum_by (pool_worth problem.tokens (after prices changes)) problem.pools
balance-all problem prices changes i total balance past is was =
    let whole : balance.gained + sum_by (pool_worth problem.tokens prices) problem.pools ≡ balance.lost + sum_by (pool_worth problem.tokens (after prices changes)) problem.pools =
    subst (λ (pools : List ProblemPool). balance.gained + sum_by (pool_worth problem.tokens prices) pools ≡ balance.lost + sum_by (pool_worth problem.tokens (after prices changes)) pools)
    (take_all i problem.pools past) was.even in
    omega (arith, is, whole)

-- a token that the problem does not have is in no pool
pub none-have : (problem : OpenView) → IsOpenProblem problem → (token i : ℕ) → length problem.tokens ≤ token → i ≤ length problem.pools →
    IsNext (map (places_of problem.tokens) problem.pools) token i (length problem.pools)
none-have problem sound token i past low = record {
  after = low;
  within = rw (length-map problem.pools (places_of problem.tokens)) (omega arith);
  none = λ k from to.
      (let at = place-at problem.tokens problem.pools (map (places_of problem.tokens) problem.pools) k to refl in
      let there = tokens_there problem sound k no_pool to in
      record {
        zero = λ e. (let same = sym (ap (λ (p : TokenPlaces). p.zero) at) ∙ e in absurd (omega (arith, there.0, same)));
        one = λ e. (let same = sym (ap (λ (p : TokenPlaces). p.one) at) ∙ e in absurd (omega (arith, there.1, same)));
      });
}

-- the earlier of the next places of two tokens
pub earlier : (places : List TokenPlaces) (first second i a b c : ℕ) → IsNext places first i a → IsNext places second i b → (c ≡ a) ⊎ (c ≡ b) → c ≤ a → c ≤ b → IsNextOfBoth places first second i c
earlier places first second i a b c is also one low high =
    let after-a = is.after in
    let after-b = also.after in
    let within-a = is.within in
    record {
      after = pick one;
      within = omega arith;
      none = λ k from to. (is.none k from (omega arith), also.none k from (omega arith));
    }
  where
    pick : (c ≡ a) ⊎ (c ≡ b) → i ≤ c
    pick (inl e) = let low-a = is.after in omega arith
    pick (inr e) = let low-b = also.after in omega arith

-- the sum of the kept worths is that of the pools
pub total-is : (problem : OpenView) (prices worths : List ℕ) → worths ≡ map (pool_worth problem.tokens prices) problem.pools → sum_by (λ (w : ℕ). w) worths ≡ sum_by (pool_worth problem.tokens prices) problem.pools
total-is problem prices worths are = ap (sum_by (λ (w : ℕ). w)) are ∙ sum-map (pool_worth problem.tokens prices) problem.pools

-- worths at any prices, all together
pub worths-after-le : (problem : OpenView) (prices : List ℕ) (changes : Changes) → IsOpenProblem problem → length prices ≡ length problem.tokens → ArePrices (after prices changes) →
    sum_by (pool_worth problem.tokens (after prices changes)) problem.pools ≤ 2 ^ 107
worths-after-le problem prices changes sound many ranges =
    let next = after prices changes in
    let as-many : length next ≡ length problem.tokens =
    length-set (set prices changes.first.place changes.first.price) changes.second.place changes.second.price ∙ length-set prices changes.first.place changes.first.price ∙ many in
    let le = upto next as-many ranges (length problem.pools) (omega arith) in
    let whole = take_all (length problem.pools) problem.pools (omega arith) in
    let few = sound.parts.few in
    let all : sum_by (pool_worth problem.tokens next) problem.pools ≤ length problem.pools * 2 ^ 99 =
    subst (λ (pools : List ProblemPool). sum_by (pool_worth problem.tokens next) pools ≤ length problem.pools * 2 ^ 99) whole le in
    omega (arith, all, few)
  where
    upto : (next : List ℕ) → length next ≡ length problem.tokens → ArePrices next → (n : ℕ) → n ≤ length problem.pools → sum_by (pool_worth problem.tokens next) (take n problem.pools) ≤ n * 2 ^ 99
    upto next as-many are zero low = omega arith
    upto next as-many are (suc n) low =
        let before = upto next as-many are n (omega arith) in
        let more = sum_by_more (pool_worth problem.tokens next) problem.pools n no_pool (omega arith) in
        let below : n < length (map (pool_worth problem.tokens next) problem.pools) = omega (arith, length-map problem.pools (pool_worth problem.tokens next)) in
        let lt = kept-worth-lt problem next (map (pool_worth problem.tokens next) problem.pools) n sound are as-many refl below in
        let read = get_or-map (pool_worth problem.tokens next) problem.pools n no_pool 0 (omega arith) in
        let step : suc n ≡ n + 1 = omega arith in
        subst (λ (m : ℕ). sum_by (pool_worth problem.tokens next) (take m problem.pools) ≤ m * 2 ^ 99) (sym step) (omega (arith, before, more, lt, read))
