-- The worths of pools where one token's price changed.
use Rattle.std.proofs.Common.{◌≡◌, ◌≢◌, ℕ, ◌+◌, ◌<◌, ◌≤◌, List, length, map, arith, ap, sym, subst, ◌∙◌, get_or, set, get_or-set_other, get_or-set_same, below_more, Bool, true, false, cond, ◌-◌, ◌*◌}
use Rattle.std.proofs.Math.ListN.{length-set, length-map}
use Rattle.std.proofs.lemmas.List.{ext_get_or, get_or-map}
use Rattle.amm_model.specs.declared.problem.ProblemPool.{ProblemPool}
use Rattle.amm_model.specs.declared.problem.TokenPlaces.{TokenPlaces}
use Rattle.std.specs.Prelude.{◌^◌}
use Rattle.std.proofs.lemmas.List.Elements.{All-set}
use Rattle.amm_model.specs.Routing.{OpenView, IsOpenProblem, ArePrices, fee_of, token0_of, token1_of, token_place, places_of, no_pool}
use Rattle.amm_names.specs.Names.{Name}
use Rattle.amm_model.specs.Bound.{pool_worth, worth_of, margin, twice_mean}
use Rattle.amm_model.specs.Swap.{input_weight}
use Rattle.amm_model.proofs.Problems.{tokens_there}
use Rattle.std.proofs.Math.Nat.{div-le_self, mul-le-mul_right}
use Rattle.std.proofs.lemmas.Nat.{mul-lt}

abbrev pub no_places : TokenPlaces
no_places = record { zero = 0; one = 0 }

-- a pool that does not have the token keeps its worth
pub same_worth : (tokens : List Name) (prices : List ℕ) (place price : ℕ) (pool : ProblemPool) →
    token_place tokens (token0_of pool) ≢ place → token_place tokens (token1_of pool) ≢ place → pool_worth tokens (set prices place price) pool ≡ pool_worth tokens prices pool
same_worth tokens prices place price pool apart0 apart1 =
    ap (λ (a : ℕ). worth_of (fee_of pool) pool.r0 pool.r1 a (get_or (set prices place price) (token_place tokens (token1_of pool)) 0)) (get_or-set_other prices place (token_place tokens (token0_of pool)) price 0 apart0)
    ∙ ap (λ (b : ℕ). worth_of (fee_of pool) pool.r0 pool.r1 (get_or prices (token_place tokens (token0_of pool)) 0) b) (get_or-set_other prices place (token_place tokens (token1_of pool)) price 0 apart1)

-- the first worths at the new prices, the others at the old ones
pub record AreMixed (tokens : List Name) (old new : List ℕ) (pools : List ProblemPool) (i : ℕ) (worths : List ℕ) : Type 0 where
  pub many : length worths ≡ length pools
  pub done : (k : ℕ) → k < i → get_or worths k 0 ≡ pool_worth tokens new (get_or pools k no_pool)
  pub left : (k : ℕ) → i ≤ k → k < length pools → get_or worths k 0 ≡ pool_worth tokens old (get_or pools k no_pool)

pub mixed-first : (tokens : List Name) (old new : List ℕ) (pools : List ProblemPool) (worths : List ℕ) → worths ≡ map (pool_worth tokens old) pools → AreMixed tokens old new pools 0 worths
mixed-first tokens old new pools worths are = record {
  many = ap length are ∙ length-map pools (pool_worth tokens old);
  done = λ k below. absurd (omega arith);
  left = λ k above below. ap (λ (ws : List ℕ). get_or ws k 0) are ∙ get_or-map (pool_worth tokens old) pools k no_pool 0 below;
}

pub mixed-next : (tokens : List Name) (old new : List ℕ) (pools : List ProblemPool) (i : ℕ) (worths : List ℕ) (worth : ℕ) → i < length pools →
    worth ≡ pool_worth tokens new (get_or pools i no_pool) → AreMixed tokens old new pools i worths → AreMixed tokens old new pools (i + 1) (set worths i worth)
mixed-next tokens old new pools i worths worth below is was = record {
  many = length-set worths i worth ∙ was.many;
  done = below_more (λ (k : ℕ). get_or (set worths i worth) k 0 ≡ pool_worth tokens new (get_or pools k no_pool)) i
      (λ k lt. get_or-set_other worths i k worth 0 (omega arith) ∙ was.done k lt)
      (let inside : i < length worths = omega (arith, was.many) in get_or-set_same worths i worth 0 inside ∙ is);
  left = λ k above lt. get_or-set_other worths i k worth 0 (omega arith) ∙ was.left k (omega arith) lt;
}

pub mixed-all : (tokens : List Name) (old new : List ℕ) (pools : List ProblemPool) (i : ℕ) (worths : List ℕ) → length pools ≤ i → AreMixed tokens old new pools i worths →
    worths ≡ map (pool_worth tokens new) pools
mixed-all tokens old new pools i worths past are =
    ext_get_or 0 worths (map (pool_worth tokens new) pools) (are.many ∙ sym (length-map pools (pool_worth tokens new)))
    (λ k below. are.done k (omega (arith, are.many)) ∙ sym (get_or-map (pool_worth tokens new) pools k no_pool 0 (omega (arith, are.many))))

pub place-at : (tokens : List Name) (pools : List ProblemPool) (places : List TokenPlaces) (i : ℕ) → i < length pools → places ≡ map (places_of tokens) pools →
    get_or places i no_places ≡ places_of tokens (get_or pools i no_pool)
place-at tokens pools places i below are = ap (λ (ps : List TokenPlaces). get_or ps i no_places) are ∙ get_or-map (places_of tokens) pools i no_pool no_places below

-- a pool's worth, by the places of its tokens
pub worth-at : (tokens : List Name) (prices list : List ℕ) (pools : List ProblemPool) (places : List TokenPlaces) (i : ℕ) (pool : ProblemPool) → i < length pools →
    pool ≡ get_or pools i no_pool → places ≡ map (places_of tokens) pools → list ≡ prices →
    worth_of (fee_of pool) pool.r0 pool.r1 (get_or list (get_or places i no_places).zero 0) (get_or list (get_or places i no_places).one 0) ≡ pool_worth tokens prices (get_or pools i no_pool)
worth-at tokens prices list pools places i pool below is are same =
    ap (λ (pl : TokenPlaces). worth_of (fee_of pool) pool.r0 pool.r1 (get_or list pl.zero 0) (get_or list pl.one 0)) (place-at tokens pools places i below are)
    ∙ ap (λ (q : ProblemPool). worth_of (fee_of q) q.r0 q.r1 (get_or list (token_place tokens (token0_of (get_or pools i no_pool))) 0) (get_or list (token_place tokens (token1_of (get_or pools i no_pool))) 0)) is
    ∙ ap (λ (ps : List ℕ). pool_worth tokens ps (get_or pools i no_pool)) same

-- and it is the old one where the pool does not have the token
pub kept-at : (tokens : List Name) (prices list : List ℕ) (pools : List ProblemPool) (places : List TokenPlaces) (i place price : ℕ) (pool : ProblemPool) (worths : List ℕ) (worth : ℕ) →
    i < length pools → pool ≡ get_or pools i no_pool → places ≡ map (places_of tokens) pools → list ≡ set prices place price →
    AreMixed tokens prices (set prices place price) pools i worths → worth ≡ get_or worths i 0 →
    (get_or places i no_places).zero ≢ place → (get_or places i no_places).one ≢ place →
    worth ≡ worth_of (fee_of pool) pool.r0 pool.r1 (get_or list (get_or places i no_places).zero 0) (get_or list (get_or places i no_places).one 0)
kept-at tokens prices list pools places i place price pool worths worth below is are same mixed read apart0 apart1 =
    let at = place-at tokens pools places i below are in
    read ∙ mixed.left i (omega arith) below
    ∙ sym (same_worth tokens prices place price (get_or pools i no_pool) (λ e. apart0 (ap (λ (pl : TokenPlaces). pl.zero) at ∙ e)) (λ e. apart1 (ap (λ (pl : TokenPlaces). pl.one) at ∙ e)))
    ∙ sym (worth-at tokens (set prices place price) list pools places i pool below is are same)

abbrev pub IsInside : OpenView → List ℕ → List ℕ → Type 0
IsInside problem prices worths = IsOpenProblem problem × ArePrices prices × (length prices ≡ length problem.tokens) × (worths ≡ map (pool_worth problem.tokens prices) problem.pools)

-- with the new price and all worths at it
pub inside-after : (new now : OpenView) (new_prices prices worths : List ℕ) (place price : ℕ) → new ≡ now → new_prices ≡ set prices place price → IsOpenProblem now → ArePrices prices →
    length prices ≡ length now.tokens → (1 ≤ price) × (price < 2 ^ 40) → worths ≡ map (pool_worth now.tokens (set prices place price)) now.pools → IsInside new new_prices worths
inside-after new now new_prices prices worths place price same prices-are sound ranges many range are =
    subst (λ (p : OpenView). IsInside p new_prices worths) (sym same)
    (subst (λ (ps : List ℕ). IsInside now ps worths) (sym prices-are)
    (sound, All-set (λ (p : ℕ). (1 ≤ p) × (p < 2 ^ 40)) prices place price range ranges, length-set prices place price ∙ many, are))

one-of-three : (b c : Bool) (x y n : ℕ) → x < n → y < n → 0 < n → cond b x (cond c y 0) < n
one-of-three true c x y n p q r = p
one-of-three false true x y n p q r = q
one-of-three false false x y n p q r = r

margin-lt : (weight a b : ℕ) → a < 2 ^ 98 → b < 2 ^ 98 → margin weight a b < 2 ^ 99
margin-lt weight a b p q = let d = div-le_self (a + b - twice_mean a b) weight in omega arith

pub worth-lt : (fee r0 r1 p0 p1 : ℕ) → r0 < 2 ^ 48 → r1 < 2 ^ 48 → p0 < 2 ^ 40 → p1 < 2 ^ 40 → worth_of fee r0 r1 p0 p1 < 2 ^ 99
worth-lt fee r0 r1 p0 p1 r0-lt r1-lt p0-lt p1-lt =
    let v0 = mul-lt p0 r0 (2 ^ 40) (2 ^ 48) p0-lt r0-lt in
    let v1 = mul-lt p1 r1 (2 ^ 40) (2 ^ 48) p1-lt r1-lt in
    let w : input_weight fee ≤ 1000 = omega arith in
    let u0 = mul-le-mul_right (p0 * r0) w in
    let u1 = mul-le-mul_right (p1 * r1) w in
    one-of-three _ _ _ _ (2 ^ 99) (margin-lt (input_weight fee) (1000 * p0 * r0) (input_weight fee * p1 * r1) (omega arith) (omega arith))
    (margin-lt (input_weight fee) (1000 * p1 * r1) (input_weight fee * p0 * r0) (omega arith) (omega arith)) (omega arith)

-- each worth is below 2^99
pub each-worth-lt : (problem : OpenView) (prices worths : List ℕ) (k : ℕ) → IsInside problem prices worths → k < length worths → get_or worths k 0 < 2 ^ 99
each-worth-lt problem prices worths k inside below =
    let here : k < length problem.pools = omega (arith, ap length inside.3, length-map problem.pools (pool_worth problem.tokens prices)) in
    let read = ap (λ (ws : List ℕ). get_or ws k 0) inside.3 ∙ get_or-map (pool_worth problem.tokens prices) problem.pools k no_pool 0 here in
    let reserves = inside.0.parts.reserves k no_pool here in
    let has = tokens_there problem inside.0 k no_pool here in
    let pool = get_or problem.pools k no_pool in
    let p0 = inside.1 (token_place problem.tokens (token0_of pool)) 0 (omega (arith, has.0, inside.2)) in
    let p1 = inside.1 (token_place problem.tokens (token1_of pool)) 0 (omega (arith, has.1, inside.2)) in
    let lt = worth-lt (fee_of pool) pool.r0 pool.r1 _ _ reserves.1 reserves.3 p0.1 p1.1 in
    omega arith

-- where a pool's tokens stand
pub zero-at : (tokens : List Name) (pools : List ProblemPool) (places : List TokenPlaces) (i : ℕ) → i < length pools → places ≡ map (places_of tokens) pools →
    (get_or places i no_places).zero ≡ token_place tokens (token0_of (get_or pools i no_pool))
zero-at tokens pools places i below are = ap (λ (p : TokenPlaces). p.zero) (place-at tokens pools places i below are)

pub one-at : (tokens : List Name) (pools : List ProblemPool) (places : List TokenPlaces) (i : ℕ) → i < length pools → places ≡ map (places_of tokens) pools →
    (get_or places i no_places).one ≡ token_place tokens (token1_of (get_or pools i no_pool))
one-at tokens pools places i below are = ap (λ (p : TokenPlaces). p.one) (place-at tokens pools places i below are)

-- the same, of worths that are kept
pub kept-worth-lt : (problem : OpenView) (prices worths : List ℕ) (k : ℕ) → IsOpenProblem problem → ArePrices prices → length prices ≡ length problem.tokens →
    worths ≡ map (pool_worth problem.tokens prices) problem.pools → k < length worths → get_or worths k 0 < 2 ^ 99
kept-worth-lt problem prices worths k sound ranges many are below = each-worth-lt problem prices worths k (sound, ranges, many, are) below
