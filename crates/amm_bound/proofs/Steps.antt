-- The steps of the loop that adds up the worths.
use Rattle.std.proofs.Common.{◌≡◌, ℕ, ◌+◌, ◌*◌, ◌^◌, ◌<◌, List, length, map, take, get_or, arith, ap, sym, ◌∙◌}
use Rattle.std.specs.Prelude.{sum_by}
use Rattle.std.proofs.lemmas.Nat.{mul-lt}
use Rattle.std.proofs.lemmas.List.Sums.{sum_by_more}
use Rattle.std.proofs.lemmas.List.{get_or-map}
use Rattle.amm_model.specs.declared.problem.Part.{Part}
use Rattle.amm_model.specs.declared.problem.ProblemPool.{ProblemPool}
use Rattle.amm_model.specs.declared.problem.TokenPlaces.{TokenPlaces}
use Rattle.amm_model.specs.Routing.{OpenView, IsOpenProblem, ArePrices, token_place, part_place, places_of, fee_of}
use Rattle.amm_names.specs.Names.{Name}
use Rattle.amm_model.proofs.Problems.{no_part, parts_there}
use Rattle.amm_model.specs.Bound.{price_of, part_value, pool_worth, worth_of}

abbrev no_places : TokenPlaces
no_places = record { zero = 0; one = 0 }

-- what a part is worth is below 2^92
pub part_value-lt : (problem : OpenView) (prices : List ℕ) → IsOpenProblem problem → length prices ≡ length problem.tokens → ArePrices prices →
    (i : ℕ) → i < length problem.parts → part_value problem.tokens prices (get_or problem.parts i no_part) < 2 ^ 92
part_value-lt problem prices sound as_many ranges i below =
    let part = get_or problem.parts i no_part in
    let price = ranges (token_place problem.tokens part.token) 0 (omega (arith, parts_there problem sound i no_part below)) in
    mul-lt (price_of problem.tokens prices part.token) part.amount (2 ^ 40) (2 ^ 52) price.1 (sound.parts.amounts i no_part below).1

-- one part more: its place is that of its token
pub one_part_more : (tokens : List Name) (prices : List ℕ) (parts : List Part) (places : List ℕ) (i amount : ℕ) → i < length parts →
    places ≡ map (part_place tokens) parts → amount ≡ (get_or parts i no_part).amount →
    (get_or prices (get_or places i 0) 0 * amount ≡ part_value tokens prices (get_or parts i no_part))
    × (sum_by (part_value tokens prices) (take i parts) + get_or prices (get_or places i 0) 0 * amount ≡ sum_by (part_value tokens prices) (take (i + 1) parts))
one_part_more tokens prices parts places i amount below places-are amount-is =
    let place : get_or places i 0 ≡ part_place tokens (get_or parts i no_part) = ap (λ (ps : List ℕ). get_or ps i 0) places-are ∙ get_or-map (part_place tokens) parts i no_part 0 below in
    let value : get_or prices (get_or places i 0) 0 * amount ≡ part_value tokens prices (get_or parts i no_part) =
    ap (λ (n : ℕ). get_or prices n 0 * amount) place ∙ ap (λ (n : ℕ). price_of tokens prices (get_or parts i no_part).token * n) amount-is in
    (value, omega (arith, value, sum_by_more (part_value tokens prices) parts i no_part below))

-- one pool more: its places are those of its tokens
pub one_more : (tokens : List Name) (prices : List ℕ) (pools : List ProblemPool) (places : List TokenPlaces) (i : ℕ) (pool : ProblemPool) (worth : ℕ) →
    i < length pools → pool ≡ get_or pools i pool → places ≡ map (places_of tokens) pools →
    worth ≡ worth_of (fee_of pool) pool.r0 pool.r1 (get_or prices (get_or places i no_places).zero 0) (get_or prices (get_or places i no_places).one 0) →
    sum_by (pool_worth tokens prices) (take i pools) + worth ≡ sum_by (pool_worth tokens prices) (take (i + 1) pools)
one_more tokens prices pools places i pool worth below pool-is places-are worth-is =
    let place : get_or places i no_places ≡ places_of tokens pool =
    ap (λ (ps : List TokenPlaces). get_or ps i no_places) places-are ∙ get_or-map (places_of tokens) pools i pool no_places below ∙ ap (places_of tokens) (sym pool-is) in
    let worth-of-pool : worth ≡ pool_worth tokens prices pool =
    worth-is ∙ ap (λ (pl : TokenPlaces). worth_of (fee_of pool) pool.r0 pool.r1 (get_or prices pl.zero 0) (get_or prices pl.one 0)) place in
    let same : pool_worth tokens prices pool ≡ pool_worth tokens prices (get_or pools i pool) = ap (pool_worth tokens prices) pool-is in
    omega (arith, sum_by_more (pool_worth tokens prices) pools i pool below)
