-- What a hop gives at most.
use Rattle.std.proofs.Common.{◌≡◌, ℕ, ◌+◌, ◌-◌, ◌*◌, ◌<◌, ◌≤◌, ◌^◌, Bool, true, false, cond, List, [], ◌∷◌, ◌++◌, ap, get_or, arith, subst}
use Rattle.std.proofs.Math.Nat.{div-le_of_le-mul}
use Rattle.amm_model.specs.declared.problem.ProblemPool.{ProblemPool}
use Rattle.amm_model.specs.declared.route.Hop.{Hop}
use Rattle.amm_model.specs.Paths.{hop_gives, hop_pool}
use Rattle.amm_model.specs.Routing.{fee_of}
use Rattle.amm_model.specs.Swap.{amount_out_of}
use Rattle.amm_cycle.specs.Chains.{AreGiven, IsMost}
use Rattle.amm_cycle.proofs.Gifts.{gives-append}

widened : (w x rin rout most : ℕ) → x * (w * rout) ≤ most * (1000 * rin) → w * x * rout ≤ (1000 * rin + w * x) * most
widened w x rin rout most h = omega arith

-- the input's own term in the divisor makes the quotient only less
pub amount_out-le : (fee x rin rout most : ℕ) → x * ((1000 - fee) * rout) ≤ most * (1000 * rin) → amount_out_of fee x rin rout ≤ most
amount_out-le fee x rin rout most h = div-le_of_le-mul _ (widened (1000 - fee) x rin rout most h)

-- and so does a balance that has no room
tested-le : (t : Bool) (v most : ℕ) → v ≤ most → cond t v 0 ≤ most
tested-le true v most h = h
tested-le false v most h = omega arith

-- a hop of either direction, by its pool's side
pub zero_side-le : (pools : List ProblemPool) (hop : Hop) (pool : ProblemPool) (fee x most : ℕ) → hop.zero_in ≡ true → pool ≡ hop_pool pools hop → fee ≡ fee_of pool →
    amount_out_of fee x pool.r0 pool.r1 ≤ most → hop_gives pools hop x ≤ most
zero_side-le pools hop pool fee x most side is charged h =
    let here = subst (λ (f : ℕ). amount_out_of f x pool.r0 pool.r1 ≤ most) charged h in
    rw side (tested-le _ _ most (subst (λ (p : ProblemPool). amount_out_of (fee_of p) x p.r0 p.r1 ≤ most) is here))

pub one_side-le : (pools : List ProblemPool) (hop : Hop) (pool : ProblemPool) (fee x most : ℕ) → hop.zero_in ≡ false → pool ≡ hop_pool pools hop → fee ≡ fee_of pool →
    amount_out_of fee x pool.r1 pool.r0 ≤ most → hop_gives pools hop x ≤ most
one_side-le pools hop pool fee x most side is charged h =
    let here = subst (λ (f : ℕ). amount_out_of f x pool.r1 pool.r0 ≤ most) charged h in
    rw side (tested-le _ _ most (subst (λ (p : ProblemPool). amount_out_of (fee_of p) x p.r1 p.r0 ≤ most) is here))

-- one hop more on a table of what hops give
pub within_most : (pools : List ProblemPool) (begun : List Hop) (hop : Hop) (amounts : List ℕ) (most : ℕ) → AreGiven pools begun amounts →
    ((e : ℕ) → e < 52 → hop_gives pools hop (get_or amounts e 0) ≤ 2 ^ e + most) → IsMost pools (begun ++ hop ∷ []) most
within_most pools begun hop amounts most given within e size =
    let below : e < 52 = omega arith in
    let least = within e below in
    let is = ap (hop_gives pools hop) (given.each e below) in
    let all = gives-append pools begun (hop ∷ []) (2 ^ e) in
    omega arith
