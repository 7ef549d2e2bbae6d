-- From tables to what paths give.
use Rattle.std.proofs.Common.{◌≡◌, ℕ, ◌+◌, ◌-◌, ◌<◌, ◌≤◌, ◌⊎◌, inl, inr, List, length, map, arith, refl, ap, sym, subst, ◌∙◌, get_or}
use Rattle.std.proofs.Math.ListN.{length-map}
use Rattle.std.proofs.lemmas.Bool.{cases_lt}
use Rattle.std.proofs.lemmas.List.{get_or-map}
use Rattle.amm_model.specs.declared.problem.ProblemPool.{ProblemPool}
use Rattle.amm_model.specs.Paths.{gives}
use Rattle.amm_model.specs.Values.{sixteenths}
use Rattle.amm_graph.specs.declared.path.Path.{Path}
use Rattle.amm_graph.specs.Hops.{hops_of}
use Rattle.amm_split.specs.declared.sizes.BestWay.{BestWay}
use Rattle.amm_split.specs.Pairs.{PairsBelow, no_path}
use Rattle.amm_split.specs.Sizes.{IsWayOf, OnesBelow, SizeBelow, SizesBelow, gives_by}

-- what a table has at a path's place
read : (pools : List ProblemPool) (paths : List Path) (table : List ℕ) (x i : ℕ) → table ≡ map (λ (path : Path). gives pools (hops_of path) x) paths → i < length paths →
    get_or table i 0 ≡ gives_by pools paths i x
read pools paths table x i is below = ap (λ (t : List ℕ). get_or t i 0) is ∙ get_or-map (λ (path : Path). gives pools (hops_of path) x) paths i no_path 0 below

ones-from : (pools : List ProblemPool) (paths : List Path) (table : List ℕ) (x bound n : ℕ) → table ≡ map (λ (path : Path). gives pools (hops_of path) x) paths → n ≡ length table → OnesBelow table bound n →
    (i : ℕ) → i < length paths → gives_by pools paths i x ≤ bound
ones-from pools paths table x bound n is all below i inside =
    let long : length table ≡ length paths = ap length is ∙ length-map paths (λ (path : Path). gives pools (hops_of path) x) in
    let here = below i (omega arith) in
    let e = read pools paths table x i is inside in
    omega arith

-- at the last size there are no two
pub last_below : (pools : List ProblemPool) (paths : List Path) (d k bound : ℕ) (table : List ℕ) → k ≡ 16 → table ≡ map (λ (path : Path). gives pools (hops_of path) (sixteenths d k)) paths →
    OnesBelow table bound (length table) → SizeBelow pools paths d bound k
last_below pools paths d k bound table last is below = record {
  ones = ones-from pools paths table (sixteenths d k) bound (length table) is refl below;
  twos = λ early. absurd (omega arith);
}

pub both_below : (pools : List ProblemPool) (paths : List Path) (d k less bound : ℕ) (firsts seconds : List ℕ) → less ≤ bound →
    firsts ≡ map (λ (path : Path). gives pools (hops_of path) (sixteenths d k)) paths → seconds ≡ map (λ (path : Path). gives pools (hops_of path) (d - sixteenths d k)) paths →
    OnesBelow firsts less (length firsts) → PairsBelow paths firsts seconds bound (length paths) → SizeBelow pools paths d bound k
both_below pools paths d k less bound firsts seconds more first second below pairs = record {
  ones = λ i inside. (let one = ones-from pools paths firsts (sixteenths d k) less (length firsts) first refl below i inside in omega arith);
  twos = λ early i j i-in j-in apart some_i some_j.
      (let e = read pools paths firsts (sixteenths d k) i first i-in in
      let f = read pools paths seconds (d - sixteenths d k) j second j-in in
      let sum = pairs i i-in j j-in apart (omega arith) (omega arith) in
      omega arith);
}

-- a greater bound
size_more : (pools : List ProblemPool) (paths : List Path) (d less bound k : ℕ) → less ≤ bound → SizeBelow pools paths d less k → SizeBelow pools paths d bound k
size_more pools paths d less bound k more below = record {
  ones = λ i inside. (let one = below.ones i inside in omega arith);
  twos = λ early i j i-in j-in apart some_i some_j. (let two = below.twos early i j i-in j-in apart some_i some_j in omega arith);
}

-- one size more
pub sizes_more : (pools : List ProblemPool) (paths : List Path) (d less bound k : ℕ) → less ≤ bound → SizesBelow pools paths d less k → SizeBelow pools paths d bound k → SizesBelow pools paths d bound (k + 1)
sizes_more pools paths d less bound k more before here j low below = elim (cases_lt j k) [
  | inl earlier ↦ size_more pools paths d less bound j more (before j low earlier)
  | inr past ↦ (let same : k ≡ j = omega arith in subst (λ (m : ℕ). SizeBelow pools paths d bound m) same here)
]

pub way_more : (pools : List ProblemPool) (paths : List Path) (d : ℕ) (kept best : BestWay) → (kept.amount ≡ 0) ⊎ IsWayOf pools paths d kept → (best ≡ kept) ⊎ IsWayOf pools paths d best →
    (best.amount ≡ 0) ⊎ IsWayOf pools paths d best
way_more pools paths d kept best before (inl same) = subst (λ (w : BestWay). (w.amount ≡ 0) ⊎ IsWayOf pools paths d w) (sym same) before
way_more pools paths d kept best before (inr way) = inr way
