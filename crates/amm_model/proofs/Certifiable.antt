-- A quote that answers a split can be written and certified: its numbers are as wide as those of a
-- certificate.
use Rattle.std.proofs.Common.{◌≡◌, ◌≤◌, ◌+◌, ◌-◌, ◌*◌, ◌^◌, ℕ, nat_lt, Bool, true, false, cond, List, [], ◌∷◌, length, get_or, arith, subst, sym}
use Rattle.std.specs.Prelude.{All, ◌<◌, sum_by, if◌then◌else◌}
use Rattle.std.specs.List.{AllByRecursion}
use Rattle.std.specs.Str.{bytes_eq}
use Rattle.std.proofs.Math.Nat.{div-le_self}
use Rattle.std.proofs.lemmas.Nat.{mul-lt}
use Rattle.std.proofs.lemmas.List.Elements.{All-from_recursion}
use Rattle.std.proofs.lemmas.List.Sums.{sum_by-le}
use Rattle.amm_names.specs.Names.{Name}
use Rattle.amm_model.specs.declared.problem.ProblemPool.{ProblemPool}
use Rattle.amm_model.specs.declared.route.Leg.{Leg}
use Rattle.amm_model.specs.declared.route.Quote.{Quote}
use Rattle.amm_model.specs.declared.limits.TheConstants.{AMOUNT_LIMIT}
use Rattle.amm_model.specs.Bound.{bound_of, margin, part_value, pool_worth, price_of, twice_mean, worth_by_weight}
use Rattle.amm_model.specs.Certificate.{IsCertifiable, IsWritable}
use Rattle.amm_model.specs.Legs.{Inventory, AreLegs, after_leg, after_legs, token_in, token_out}
use Rattle.amm_model.specs.Routing.{ArePrices, HasReserves, IsOpenProblem, OpenView, amount_given, fee_of, no_pool, open_view, token_place, token0_of, token1_of}
use Rattle.amm_model.specs.SplitAnswers.{IsSplitAnswer}
use Rattle.amm_model.specs.Swap.{amount_out_of, input_weight}
use Rattle.amm_model.proofs.LegLaw.{legs_few}
use Rattle.amm_model.proofs.Problems.{none_given, parts_there, tokens_there}
use Rattle.amm_model.proofs.Swap.{amount_out-lt}

-- ---- the legs

-- what a pool pays is below its reserve
output_small : (pool : ProblemPool) → HasReserves pool → (x y : ℕ) (zero_in : Bool)
    → y ≡ amount_out_of (fee_of pool) x (cond zero_in pool.r0 pool.r1) (cond zero_in pool.r1 pool.r0) → y < 2 ^ 48
output_small pool r x y true pays = omega (arith, pays, amount_out-lt (fee_of pool) x pool.r0 pool.r1 r.0 r.2, r.3)
output_small pool r x y false pays = omega (arith, pays, amount_out-lt (fee_of pool) x pool.r1 pool.r0 r.2 r.0, r.1)

-- what is written of a leg is within its limits
abbrev IsSmall : List ProblemPool → Leg → Type 0
IsSmall pools leg = (leg.pool < length pools) × ((leg.input ≤ AMOUNT_LIMIT) × (leg.output ≤ AMOUNT_LIMIT))

legs_small : (pools : List ProblemPool) (used : List ℕ) (held : Inventory) (legs : List Leg) → All HasReserves pools → AreLegs pools used held legs → AllByRecursion (IsSmall pools) legs
legs_small pools used held [] reserves are = tt
legs_small pools used held (leg ∷ legs) reserves are =
    let output = output_small (get_or pools leg.pool no_pool) (reserves leg.pool no_pool are.0.there) leg.input leg.output leg.zero_in are.0.pays in
    ((are.0.there, (omega (arith, are.0.room), omega (arith, output))), legs_small pools (leg.pool ∷ used) (after_leg pools held leg) legs reserves are.1)

one_leg : (held input output : ℕ) (goes_in comes_out : Bool) → (held - cond goes_in input 0) + cond comes_out output 0 ≤ held + output
one_leg held input output true true = omega arith
one_leg held input output true false = omega arith
one_leg held input output false true = omega arith
one_leg held input output false false = omega arith

added : (pools : List ProblemPool) (held : Inventory) (leg : Leg) (token : Name) → after_leg pools held leg token ≤ held token + leg.output
added pools held leg token = one_leg (held token) leg.input leg.output (bytes_eq token (token_in pools leg)) (bytes_eq token (token_out pools leg))

-- legs add less than 2^48 each to what is held of a token
held_small : (pools : List ProblemPool) (used : List ℕ) (held : Inventory) (legs : List Leg) → All HasReserves pools → AreLegs pools used held legs → (token : Name) →
    after_legs pools held legs token ≤ held token + length legs * 2 ^ 48
held_small pools used held [] reserves are token = omega arith
held_small pools used held (leg ∷ legs) reserves are token =
    let output = output_small (get_or pools leg.pool no_pool) (reserves leg.pool no_pool are.0.there) leg.input leg.output leg.zero_in are.0.pays in
    let later = held_small pools (leg.pool ∷ used) (after_leg pools held leg) legs reserves are.1 token in
    omega (arith, output, later, added pools held leg token)

pub split_writable : (quote : Quote) → IsSplitAnswer quote → IsWritable quote
split_writable quote split =
    let pools = quote.problem.pools in
    let given = amount_given (open_view quote.problem) in
    let small = All-from_recursion (IsSmall pools) quote.route.legs (legs_small pools [] given quote.route.legs split.problem.parts.reserves split.delivers.0) in
    record {
      priced = split.settled.as_many;
      few = legs_few (open_view quote.problem) [] given quote.route.legs split.problem split.delivers.0;
      there = λ k d below. (small k d below).0;
      amounts = λ k d below. (small k d below).1;
    }

-- at most 256 outputs are delivered
delivered_small : (quote : Quote) → IsSplitAnswer quote → quote.delivered < 2 ^ 64
delivered_small quote split =
    let problem = open_view quote.problem in
    let few = legs_few problem [] (amount_given problem) quote.route.legs split.problem split.delivers.0 in
    let none : amount_given problem problem.t ≡ 0 = none_given problem.parts problem.t split.problem.parts.apart in
    let amount : quote.delivered ≡ after_legs problem.pools (amount_given problem) quote.route.legs problem.t = split.delivers.1 in
    omega (arith, few, none, amount, held_small problem.pools [] (amount_given problem) quote.route.legs split.problem.parts.reserves split.delivers.0 problem.t)

-- ---- the bound

-- some thousandths of a reserve, at a price
value_small : (weight price reserve : ℕ) → weight ≤ 1000 → price < 2 ^ 40 → reserve < 2 ^ 48 → weight * price * reserve < 2 ^ 98
value_small weight price reserve w p r =
    let one = mul-lt weight price (2 ^ 10) (2 ^ 40) (omega (arith, w)) p in
    let two = mul-lt (weight * price) reserve (2 ^ 50) (2 ^ 48) (omega (arith, one)) r in
    omega (arith, two)

margin_small : (weight a b : ℕ) → a < 2 ^ 98 → b < 2 ^ 98 → margin weight a b ≤ 2 ^ 99
margin_small weight a b a_small b_small =
    let less : margin weight a b ≤ a + b - twice_mean a b = div-le_self (a + b - twice_mean a b) weight in
    omega (arith, less, a_small, b_small)

worth_small : (weight r0 r1 p0 p1 : ℕ) → weight ≤ 1000 → r0 < 2 ^ 48 → r1 < 2 ^ 48 → p0 < 2 ^ 40 → p1 < 2 ^ 40 → worth_by_weight weight r0 r1 p0 p1 ≤ 2 ^ 99
worth_small weight r0 r1 p0 p1 w a b p q = by (nat_lt (1000 * p0 * r0) (weight * p1 * r1)) (nat_lt (1000 * p1 * r1) (weight * p0 * r0))
  where
    full : 1000 ≤ 1000
    full = omega arith

    by : (first second : Bool) → (if first then margin weight (1000 * p0 * r0) (weight * p1 * r1) else (if second then margin weight (1000 * p1 * r1) (weight * p0 * r0) else 0)) ≤ 2 ^ 99
    by true second = margin_small weight (1000 * p0 * r0) (weight * p1 * r1) (value_small 1000 p0 r0 full p a) (value_small weight p1 r1 w q b)
    by false true = margin_small weight (1000 * p1 * r1) (weight * p0 * r0) (value_small 1000 p1 r1 full q b) (value_small weight p0 r0 w p a)
    by false false = omega arith

bound_small : (problem : OpenView) (prices : List ℕ) → IsOpenProblem problem → length prices ≡ length problem.tokens → ArePrices prices → bound_of problem prices < 2 ^ 128
bound_small problem prices sound as_many ranges =
    let of_parts = sum_by-le (part_value problem.tokens prices) (2 ^ 92) problem.parts each_part in
    let of_pools = sum_by-le (pool_worth problem.tokens prices) (2 ^ 99) problem.pools each_pool in
    let all = sum_by (part_value problem.tokens prices) problem.parts + sum_by (pool_worth problem.tokens prices) problem.pools in
    let less : bound_of problem prices ≤ all = div-le_self all (price_of problem.tokens prices problem.t) in
    omega (arith, of_parts, of_pools, less, sound.parts.few, sound.parts.few_parts)
  where
    each_part : All (λ part. part_value problem.tokens prices part ≤ 2 ^ 92) problem.parts
    each_part k d below =
        let part = get_or problem.parts k d in
        let price = ranges (token_place problem.tokens part.token) 0 (omega (arith, as_many, parts_there problem sound k d below)) in
        let product = mul-lt (price_of problem.tokens prices part.token) part.amount (2 ^ 40) (2 ^ 52) price.1 (sound.parts.amounts k d below).1 in
        omega (arith, product)

    each_pool : All (λ pool. pool_worth problem.tokens prices pool ≤ 2 ^ 99) problem.pools
    each_pool k d below =
        let pool = get_or problem.pools k d in
        let reserves = sound.parts.reserves k d below in
        let there = tokens_there problem sound k d below in
        let first = ranges (token_place problem.tokens (token0_of pool)) 0 (omega (arith, as_many, there.0)) in
        let second = ranges (token_place problem.tokens (token1_of pool)) 0 (omega (arith, as_many, there.1)) in
        worth_small (input_weight (fee_of pool)) pool.r0 pool.r1 _ _ (omega arith) reserves.1 reserves.3 first.1 second.1

-- ---- the quote

pub split_certifiable : (quote : Quote) → IsSplitAnswer quote → IsCertifiable quote
split_certifiable quote split = record {
  problem = split.problem;
  prices = split.settled.ranges;
  writable = split_writable quote split;
  delivered = delivered_small quote split;
  bound = subst (λ bound. bound < 2 ^ 128) (sym split.bound) (bound_small (open_view quote.problem) quote.prices split.problem split.settled.as_many split.settled.ranges);
}
