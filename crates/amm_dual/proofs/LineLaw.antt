-- What parts and trades give and take, one more at a time; and what their line tells of a bound.
use Rattle.std.proofs.Common.{◌≡◌, ℕ, ◌+◌, ◌-◌, ◌*◌, ◌/◌, ◌<◌, ◌≤◌, ◌^◌, List, length, map, arith, ap, sym, subst, ◌∙◌, get_or, set}
use Rattle.std.specs.Prelude.{All, sum_by}
use Rattle.std.proofs.Math.ListN.{length-set}
use Rattle.std.proofs.lemmas.Nat.{le-div}
use Rattle.std.proofs.lemmas.List.{take_all}
use Rattle.std.proofs.lemmas.List.Elements.{All-set}
use Rattle.std.proofs.lemmas.List.Sums.{sum_by_more}
use Rattle.amm_model.specs.declared.problem.Part.{Part}
use Rattle.amm_model.specs.declared.problem.ProblemPool.{ProblemPool}
use Rattle.amm_model.specs.declared.problem.TokenPlaces.{TokenPlaces}
use Rattle.amm_model.specs.Routing.{OpenView, fee_of, no_pool, part_place, places_of}
use Rattle.amm_model.specs.Bound.{bound_of, part_value, pool_worth, price_of, worth_of}
use Rattle.amm_model.proofs.Problems.{no_part}
use Rattle.amm_bound.proofs.Steps.{one_part_more}
use Rattle.amm_dual.specs.Flows.{AreFlows, AreGifts, IsNeed, value_in}
use Rattle.amm_dual.proofs.Values.{value_in-add}

-- ---- parts

-- nothing is given yet
pub gifts-first : (problem : OpenView) (given : List ℕ) → length given ≡ length problem.tokens → All (λ (amount : ℕ). amount < 2 ^ 73) given → ((prices : List ℕ) → value_in prices given ≡ 0) →
    AreGifts problem 0 given
gifts-first problem given many few none = record {
  amounts = record { many = many; few = few };
  covered = λ prices as_many. omega (arith, none prices);
}

-- a part more is there, and not given
pub gifts-same : (problem : OpenView) (i : ℕ) (given : List ℕ) → i < length problem.parts → AreGifts problem i given → AreGifts problem (i + 1) given
gifts-same problem i given below are = record {
  amounts = are.amounts;
  covered = λ prices as_many. omega (arith, are.covered prices as_many, sum_by_more (part_value problem.tokens prices) problem.parts i no_part below);
}

-- a part more is given
pub gifts-more : (problem : OpenView) (i place amount more : ℕ) (given : List ℕ) (places : List ℕ) → i < length problem.parts → places ≡ map (part_place problem.tokens) problem.parts →
    place ≡ get_or places i 0 → amount ≡ (get_or problem.parts i no_part).amount → place < length given → more ≡ get_or given place 0 + amount * 2 ^ 14 → more < 2 ^ 73 →
    AreGifts problem i given → AreGifts problem (i + 1) (set given place more)
gifts-more problem i place amount more given places below places-are place-is amount-is inside more-is few are = record {
  amounts = record {
    many = length-set given place more ∙ are.amounts.many;
    few = All-set (λ (n : ℕ). n < 2 ^ 73) given place more few are.amounts.few;
  };
  covered = λ prices as_many.
      (let added : value_in prices (set given place more) ≡ value_in prices given + get_or prices place 0 * (amount * 2 ^ 14) =
      ap (λ (n : ℕ). value_in prices (set given place n)) more-is ∙ value_in-add prices given place (amount * 2 ^ 14) inside (as_many ∙ sym are.amounts.many) in
      let part = (one_part_more problem.tokens prices problem.parts places i amount below places-are amount-is).1 in
      let here : get_or prices place 0 * amount ≡ get_or prices (get_or places i 0) 0 * amount = ap (λ (n : ℕ). get_or prices n 0 * amount) place-is in
      let before = are.covered prices as_many in
      omega arith);
}

-- ---- pools

-- no trade is made yet
pub flows-first : (problem : OpenView) (count : ℕ) (given taken : List ℕ) → AreGifts problem count given → length problem.parts ≤ count → length taken ≡ length problem.tokens →
    All (λ (amount : ℕ). amount < 2 ^ 73) taken → AreFlows problem 0 given taken
flows-first problem count given taken are past many few = record {
  gives = are.amounts;
  takes = record { many = many; few = few };
  covered = λ prices as_many.
      (let whole = subst (λ (parts : List Part). value_in prices given ≤ 2 ^ 14 * sum_by (part_value problem.tokens prices) parts) (take_all count problem.parts past) (are.covered prices as_many) in
      omega arith);
}

-- a pool more is there, with no trade
pub flows-same : (problem : OpenView) (i : ℕ) (given taken : List ℕ) → i < length problem.pools → AreFlows problem i given taken → AreFlows problem (i + 1) given taken
flows-same problem i given taken below are = record {
  gives = are.gives;
  takes = are.takes;
  covered = λ prices as_many. omega (arith, are.covered prices as_many, sum_by_more (pool_worth problem.tokens prices) problem.pools i no_pool below);
}

-- what both lists gain by the trade with a pool
abbrev pub Gains : (old new : List ℕ) → TokenPlaces → (n0 n1 : ℕ) → Type 0
Gains old new at n0 n1 = (prices : List ℕ) → length prices ≡ length old → value_in prices new ≡ value_in prices old + get_or prices at.zero 0 * n0 + get_or prices at.one 0 * n1

-- a trade more
pub flows-more : (problem : OpenView) (i : ℕ) (given taken more_given more_taken : List ℕ) (at : TokenPlaces) (given0 given1 taken0 taken1 : ℕ) → i < length problem.pools →
    at ≡ places_of problem.tokens (get_or problem.pools i no_pool) →
    ((q0 q1 : ℕ) → q0 * given0 + q1 * given1 ≤ q0 * taken0 + q1 * taken1
    + 2 ^ 14 * (worth_of (fee_of (get_or problem.pools i no_pool)) (get_or problem.pools i no_pool).r0 (get_or problem.pools i no_pool).r1 q0 q1 + 1)) →
    Gains given more_given at given0 given1 → Gains taken more_taken at taken0 taken1 → length more_given ≡ length given → length more_taken ≡ length taken →
    All (λ (amount : ℕ). amount < 2 ^ 73) more_given → All (λ (amount : ℕ). amount < 2 ^ 73) more_taken →
    AreFlows problem i given taken → AreFlows problem (i + 1) more_given more_taken
flows-more problem i given taken more_given more_taken at given0 given1 taken0 taken1 below at-is trade gains losses given-many taken-many given-few taken-few are = record {
  gives = record { many = given-many ∙ are.gives.many; few = given-few };
  takes = record { many = taken-many ∙ are.takes.many; few = taken-few };
  covered = λ prices as_many.
      (let pool = get_or problem.pools i no_pool in
      let worth : worth_of (fee_of pool) pool.r0 pool.r1 (get_or prices at.zero 0) (get_or prices at.one 0) ≡ pool_worth problem.tokens prices pool =
      ap (λ (p : TokenPlaces). worth_of (fee_of pool) pool.r0 pool.r1 (get_or prices p.zero 0) (get_or prices p.one 0)) at-is in
      let here = trade (get_or prices at.zero 0) (get_or prices at.one 0) in
      let gained = gains prices (as_many ∙ sym are.gives.many) in
      let lost = losses prices (as_many ∙ sym are.takes.many) in
      let before = are.covered prices as_many in
      let sums = sum_by_more (pool_worth problem.tokens prices) problem.pools i no_pool below in
      omega arith);
}

-- ---- the line

-- a value that a line keeps up keeps up the bound
bound-kept : (bound price count value need given taken : ℕ) → 0 < price → 2 ^ 14 * ((bound - bound / 65536) * price + count) ≤ need → taken + need ≤ given → given ≤ taken + 2 ^ 14 * (value + count) →
    bound ≤ value / price + bound / 65536
bound-kept bound price count value need given taken pos enough reached covered =
    let least : (bound - bound / 65536) * price ≤ value = omega arith in
    let low : bound - bound / 65536 ≤ value / price = le-div (bound - bound / 65536) value price pos (omega arith) in
    omega arith

pub line-kept : (problem : OpenView) (prices after given taken : List ℕ) (above below need : ℕ) → AreFlows problem (length problem.pools) given taken → length after ≡ length problem.tokens →
    price_of problem.tokens after problem.t ≡ price_of problem.tokens prices problem.t → 0 < price_of problem.tokens prices problem.t →
    IsNeed problem prices need → above ≡ value_in after given → below ≡ value_in after taken → above < 2 ^ 125 → below + need ≤ above →
    bound_of problem prices ≤ bound_of problem after + bound_of problem prices / 65536
line-kept problem prices after given taken above below need flows as_many unit pos is above-is below-is few reached =
    let covered = subst (λ (pools : List ProblemPool). value_in after given ≤ value_in after taken + 2 ^ 14 * (sum_by (part_value problem.tokens after) problem.parts + sum_by (pool_worth problem.tokens after) pools + length problem.pools))
    (take_all (length problem.pools) problem.pools (omega arith)) (flows.covered after as_many) in
    subst (λ (p : ℕ). bound_of problem prices ≤ (sum_by (part_value problem.tokens after) problem.parts + sum_by (pool_worth problem.tokens after) problem.pools) / p + bound_of problem prices / 65536) (sym unit)
    (bound-kept (bound_of problem prices) (price_of problem.tokens prices problem.t) (length problem.pools)
    (sum_by (part_value problem.tokens after) problem.parts + sum_by (pool_worth problem.tokens after) problem.pools) need above below pos
    (is (omega arith)) reached (omega (arith, covered, above-is, below-is)))
