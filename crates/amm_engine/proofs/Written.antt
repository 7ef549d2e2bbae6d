-- What a basket and a cycle print can be written: their numbers are within their limits.
use Rattle.std.proofs.Common.{◌≡◌, ◌<◌, ◌≤◌, ◌^◌, ℕ, suc, Bool, true, false, cond, List, [], ◌∷◌, length, get_or, refl, arith, subst, sym}
use Rattle.std.specs.Prelude.{All}
use Rattle.std.specs.List.{AllByRecursion}
use Rattle.std.proofs.lemmas.List.Elements.{All-from_recursion}
use Rattle.amm_names.specs.Names.{Name}
use Rattle.amm_model.specs.declared.limits.TheConstants.{AMOUNT_LIMIT}
use Rattle.amm_model.specs.declared.problem.ProblemPool.{ProblemPool}
use Rattle.amm_model.specs.declared.route.Hop.{Hop}
use Rattle.amm_model.specs.declared.route.Leg.{Leg}
use Rattle.amm_model.specs.declared.route.OpenQuote.{OpenQuote}
use Rattle.amm_model.specs.Baskets.{IsBasketAnswer}
use Rattle.amm_model.specs.Certificate.{AreWritable}
use Rattle.amm_model.specs.Cycles.{IsCycleAnswer}
use Rattle.amm_model.specs.Legs.{Inventory, AreLegs, after_leg}
use Rattle.amm_model.specs.Paths.{IsHop, gives, hop_gives, hop_pool, legs_along}
use Rattle.amm_model.specs.Routing.{HasReserves, amount_given, fee_of, no_pool}
use Rattle.amm_model.specs.Swap.{amount_out_of}
use Rattle.amm_model.proofs.LegLaw.{legs_few}
use Rattle.amm_model.proofs.Swap.{amount_out-lt}
use Rattle.amm_settle.proofs.AllLegs.{AreSoundPools}
use Rattle.amm_settle.proofs.Trading.{IsSoundPool}
use Rattle.amm_loans.proofs.Chain.{later_hops}
use Rattle.amm_loans.proofs.Fitting.{problem_pools}
use Rattle.amm_loans.proofs.OneHop.{HopSide, hop_side, some_in}

-- what is written of a leg is within its limits
abbrev IsSmall : List ProblemPool → Leg → Type 0
IsSmall pools leg = (leg.pool < length pools) × ((leg.input ≤ AMOUNT_LIMIT) × (leg.output ≤ AMOUNT_LIMIT))

-- ---- the legs of a basket

-- what a pool pays is below its reserve
output_small : (pool : ProblemPool) → HasReserves pool → (x y : ℕ) (zero_in : Bool)
    → y ≡ amount_out_of (fee_of pool) x (cond zero_in pool.r0 pool.r1) (cond zero_in pool.r1 pool.r0) → y < 2 ^ 48
output_small pool r x y true pays = omega (arith, pays, amount_out-lt (fee_of pool) x pool.r0 pool.r1 r.0 r.2, r.3)
output_small pool r x y false pays = omega (arith, pays, amount_out-lt (fee_of pool) x pool.r1 pool.r0 r.2 r.0, r.1)

legs_small : (pools : List ProblemPool) (used : List ℕ) (held : Inventory) (legs : List Leg) → All HasReserves pools → AreLegs pools used held legs → AllByRecursion (IsSmall pools) legs
legs_small pools used held [] reserves are = tt
legs_small pools used held (leg ∷ legs) reserves are =
    let output = output_small (get_or pools leg.pool no_pool) (reserves leg.pool no_pool are.0.there) leg.input leg.output leg.zero_in are.0.pays in
    ((are.0.there, (omega (arith, are.0.room), omega (arith, output))), legs_small pools (leg.pool ∷ used) (after_leg pools held leg) legs reserves are.1)

pub basket_writable : (quote : OpenQuote) → IsBasketAnswer quote → AreWritable quote.problem.tokens quote.problem.pools quote.prices quote.route.legs
basket_writable quote is =
    let pools = quote.problem.pools in
    let given = amount_given quote.problem in
    let small = All-from_recursion (IsSmall pools) quote.route.legs (legs_small pools [] given quote.route.legs is.problem.parts.reserves is.delivers.0) in
    record {
      priced = is.settled.as_many;
      few = legs_few quote.problem [] given quote.route.legs is.problem is.delivers.0;
      there = λ k d below. (small k d below).0;
      amounts = λ k d below. (small k d below).1;
    }

-- ---- the legs of a cycle

one_side : (zero_in : Bool) (y : ℕ) → cond zero_in 0 y ≤ AMOUNT_LIMIT → cond zero_in y 0 ≤ AMOUNT_LIMIT → y ≤ AMOUNT_LIMIT
one_side true y first second = second
one_side false y first second = first

hops_small : (pools : List ProblemPool) (hops : List Hop) (x : ℕ) → AreSoundPools pools → All (IsHop pools) hops → 1 ≤ gives pools hops x → AllByRecursion (IsSmall pools) (legs_along pools hops x)
hops_small pools [] x sound over some = tt
hops_small pools (hop ∷ hops) x sound over some =
    let is = over 0 hop (omega arith) in
    let pool : IsSoundPool (hop_pool pools hop) = sound.each hop.pool is.there in
    let side : HopSide pools [] hop x = hop_side pools [] hop x is pool (some_in pools (hop ∷ hops) x some) (some_in pools hops (hop_gives pools hop x) some) in
    let output = one_side hop.zero_in (hop_gives pools hop x) (omega (arith, side.side.fair.within0, pool.reserves.1)) (omega (arith, side.side.fair.within1, pool.reserves.3)) in
    ((is.there, (omega (arith, side.small), output)), hops_small pools hops (hop_gives pools hop x) sound (later_hops pools hop hops over) some)

along_long : (pools : List ProblemPool) (hops : List Hop) (x : ℕ) → length (legs_along pools hops x) ≡ length hops
along_long pools [] x = refl
along_long pools (hop ∷ hops) x = let rest = along_long pools hops (hop_gives pools hop x) in omega arith

pub cycle_writable : (quote : OpenQuote) → IsCycleAnswer quote → AreWritable quote.problem.tokens quote.problem.pools quote.prices quote.route.legs
cycle_writable quote is =
    let pools = quote.problem.pools in
    let trade = is.trade in
    subst (λ (legs : List Leg). AreWritable quote.problem.tokens quote.problem.pools quote.prices legs) (sym trade.legs_of)
    (let small = All-from_recursion (IsSmall pools) (legs_along pools trade.hops trade.x)
    (hops_small pools trade.hops trade.x (problem_pools quote.problem is.problem) trade.is_cycle.over (omega (arith, trade.stands))) in
    record {
      priced = is.settled.as_many;
      few = omega (arith, along_long pools trade.hops trade.x, trade.is_cycle.short.1);
      there = λ k d below. (small k d below).0;
      amounts = λ k d below. (small k d below).1;
    })
