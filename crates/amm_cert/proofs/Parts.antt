-- The rows of a certificate: what was read, and the value that it is.
use Rattle.std.proofs.Common.{◌≡◌, ◌≢◌, ℕ, ◌<◌, ◌≤◌, List, [], ◌∷◌, length, get_or, map, Bool, true, false, ◌==◌, nat_le, nat_lt, Result, Ok, Err, refl, sym, ap, ap₂, subst, ◌∙◌, arith}
use Rattle.std.specs.Prelude.{IsTrue, if◌then◌else◌, slice_index_or, AllPairs}
use Rattle.std.specs.List.{All, zip, list_all}
use Rattle.std.specs.Str.{bytes_eq}
use Rattle.std.proofs.lemmas.List.Elements.{All-from_recursion}
use Rattle.std.proofs.lemmas.List.Sums.{passes_at_first}
use Rattle.std.proofs.Math.ListN.{length-map}
use Rattle.std.proofs.lemmas.Slice.Eq.{bytes_eq-Decides}
use Rattle.std.proofs.lemmas.Bool.Decides.{nat_tests}
use Rattle.serde_json.specs.Data.{Data, string}
use Rattle.amm_names.specs.Pools.{is_pool_name}
use Rattle.amm_model.specs.declared.fault.Refusal.{Refusal}
use Rattle.amm_model.specs.declared.fault.Refusal.TheVariants.{BadCommand}
use Rattle.amm_model.specs.declared.problem.ProblemPool.{ProblemPool}
use Rattle.amm_model.specs.declared.route.Leg.{Leg}
use Rattle.amm_model.specs.Outcome.{◌>>=◌}
use Rattle.amm_model.specs.Forms.{as_text, as_list, as_amount, as_pool, value_if}
use Rattle.amm_model.specs.declared.limits.TheConstants.{AMOUNT_LIMIT}
use Rattle.amm_model.specs.Json.{each, list, whole}
use Rattle.amm_model.specs.Routing.{ArePrices, IsBefore, no_pool, token0_of, token1_of}
use Rattle.amm_model.specs.Legs.{leg_pool, token_in}
use Rattle.amm_model.specs.Certificate.{pool_value, price_value, leg_value}
use Rattle.amm_model.proofs.Guards.{given, same_answer}
use Rattle.amm_model.proofs.Problems.{before-apart}
use Rattle.amm_cert.specs.Rows.{as_unsigned, pool_parts, pool_row, as_problem_pool, as_problem_pools, price_row, as_price, each_price, prices_row, as_prices, is_price, side_of, pool_place, place_of, leg_row, as_leg, legs_row, as_legs}
use Rattle.amm_cert.proofs.Forms.{text-is, list-is, list-of, unsigned-is, unsigned-of, passed, fits, amount-is, amount-of, pool-is, pool-of, each-is, each-of, by_items}
use Rattle.amm_cert.proofs.Places.{place-first}
use Rattle.amm_cert.proofs.Prices.{prices_fit, prices_pass}

-- one item more is the same
pub also : {x y : Data} {xs ys : List Data} → x ≡ y → xs ≡ ys → (x ∷ xs) ≡ (y ∷ ys)
also e f = ap₂ (λ x xs. x ∷ xs) e f

-- and no item more
pub done : ◌≡◌ {A = List Data} [] []
done = refl

-- ---- pools

-- numbers of a pool are amounts
pub record AreAmounts (pool : ProblemPool) : Type 0 where
  pub name : IsTrue (is_pool_name pool.name)
  pub r0 : pool.r0 ≤ AMOUNT_LIMIT
  pub r1 : pool.r1 ≤ AMOUNT_LIMIT
  pub b0 : pool.b0 ≤ AMOUNT_LIMIT
  pub b1 : pool.b1 ≤ AMOUNT_LIMIT

parts-is : (n a b c d : Data) (pool : ProblemPool) → pool_parts n a b c d ≡ Ok pool → list (n ∷ a ∷ b ∷ c ∷ d ∷ []) ≡ pool_value pool
parts-is n a b c d pool e =
    let name = given (as_pool n) _ pool e in
    let r0 = given (as_amount a) _ pool name.after in
    let r1 = given (as_amount b) _ pool r0.after in
    let b0 = given (as_amount c) _ pool r1.after in
    let b1 = given (as_amount d) _ pool b0.after in
    let made = same_answer _ pool b1.after in
    let P : ProblemPool → Type 0 = λ q. list (n ∷ a ∷ b ∷ c ∷ d ∷ []) ≡ pool_value q in
    subst P made
    (ap list (also (pool-is n name.value name.was) (also (amount-is a r0.value r0.was).0 (also (amount-is b r1.value r1.was).0 (also (amount-is c b0.value b0.was).0 (also (amount-is d b1.value b1.was).0 done))))))

row-is : (ds : List Data) (pool : ProblemPool) → pool_row ds ≡ Ok pool → list ds ≡ pool_value pool
row-is [] pool e = cc
row-is (n ∷ []) pool e = cc
row-is (n ∷ a ∷ []) pool e = cc
row-is (n ∷ a ∷ b ∷ []) pool e = cc
row-is (n ∷ a ∷ b ∷ c ∷ []) pool e = cc
row-is (n ∷ a ∷ b ∷ c ∷ d ∷ []) pool e = parts-is n a b c d pool e
row-is (n ∷ a ∷ b ∷ c ∷ d ∷ x ∷ xs) pool e = cc

problem_pool-is : (d : Data) (pool : ProblemPool) → as_problem_pool d ≡ Ok pool → (d ≡ pool_value pool) × Unit {0}
unfolding as_problem_pool
problem_pool-is d pool e =
    let ds = given (as_list d) _ pool e in
    (list-is d ds.value ds.was ∙ row-is ds.value pool ds.after, tt)

problem_pool-of : (pool : ProblemPool) → AreAmounts pool → as_problem_pool (pool_value pool) ≡ Ok pool
unfolding as_problem_pool
problem_pool-of pool h = rw (pool-of pool.name h.name, amount-of pool.r0 h.r0, amount-of pool.r1 h.r1, amount-of pool.b0 h.b0, amount-of pool.b1 h.b1) refl

pub problem_pools-is : (d : Data) (pools : List ProblemPool) → as_problem_pools d ≡ Ok pools → d ≡ list (map pool_value pools)
unfolding as_problem_pools
problem_pools-is d pools e =
    let ds = given (as_list d) _ pools e in
    list-is d ds.value ds.was ∙ ap list (each-is as_problem_pool pool_value (λ pool. Unit {0}) problem_pool-is ds.value pools ds.after).0

pub problem_pools-of : (pools : List ProblemPool) → All AreAmounts pools → as_problem_pools (list (map pool_value pools)) ≡ Ok pools
unfolding as_problem_pools
problem_pools-of pools all =
    ap (λ o. o >>= each as_problem_pool) (list-of (map pool_value pools)) ∙ each-of as_problem_pool pool_value AreAmounts problem_pool-of pools (by_items AreAmounts pools all)

-- ---- prices

price_row-is : (token : List ℕ) (ds : List Data) (p : ℕ) → price_row token ds ≡ Ok p → list ds ≡ price_value (token, p)
price_row-is token [] p e = cc
price_row-is token (n ∷ []) p e = cc
price_row-is token (n ∷ m ∷ []) p e =
    let name = given (as_text n) _ p e in
    let price = given (as_unsigned m) _ p name.after in
    let both = passed (bytes_eq name.value token) price.value p price.after in
    let same : name.value ≡ token = (bytes_eq-Decides name.value token).0 both.0 in
    ap list (also (text-is n name.value name.was ∙ ap string same) (also (unsigned-is m price.value price.was ∙ ap whole both.1) done))
price_row-is token (n ∷ m ∷ x ∷ xs) p e = cc

price-is : (token : List ℕ) (d : Data) (p : ℕ) → as_price token d ≡ Ok p → d ≡ price_value (token, p)
unfolding as_price
price-is token d p e =
    let ds = given (as_list d) _ p e in
    list-is d ds.value ds.was ∙ price_row-is token ds.value p ds.after

price-of : (token : List ℕ) (p : ℕ) → as_price token (price_value (token, p)) ≡ Ok p
unfolding as_price
price-of token p = rw (unsigned-of p, (bytes_eq-Decides token token).1 refl) refl

each_price-is : (tokens : List (List ℕ)) (ds : List Data) (ps : List ℕ) → each_price tokens ds ≡ Ok ps → (ds ≡ map price_value (zip tokens ps)) × (length ps ≡ length tokens)
unfolding each_price
each_price-is [] [] ps e = subst (λ (l : List ℕ). ([] ≡ map price_value (zip [] l)) × (length l ≡ length {A = List ℕ} [])) (same_answer [] ps e) (refl, refl)
each_price-is [] (d ∷ ds) ps e = cc
each_price-is (token ∷ tokens) [] ps e = cc
each_price-is (token ∷ tokens) (d ∷ ds) ps e =
    let first = given (as_price token d) _ ps e in
    let rest = given (each_price tokens ds) _ ps first.after in
    let later = each_price-is tokens ds rest.value rest.was in
    subst (λ (l : List ℕ). ((d ∷ ds) ≡ map price_value (zip (token ∷ tokens) l)) × (length l ≡ length (token ∷ tokens))) (same_answer (first.value ∷ rest.value) ps rest.after)
    (ap₂ (λ x xs. x ∷ xs) (price-is token d first.value first.was) later.0, omega (arith, later.1))

each_price-of : (tokens : List (List ℕ)) (ps : List ℕ) → length ps ≡ length tokens → each_price tokens (map price_value (zip tokens ps)) ≡ Ok ps
unfolding each_price
each_price-of [] [] same = refl
each_price-of [] (p ∷ ps) same = absurd (omega arith)
each_price-of (token ∷ tokens) [] same = absurd (omega arith)
each_price-of (token ∷ tokens) (p ∷ ps) same = let less : length ps ≡ length tokens = omega arith in rw (price-of token p, each_price-of tokens ps less) refl

priced : (tokens : List (List ℕ)) (ps : List ℕ) → length ps ≡ length tokens → length (map price_value (zip tokens ps)) ≡ length tokens
priced [] [] same = refl
priced [] (p ∷ ps) same = absurd (omega arith)
priced (token ∷ tokens) [] same = absurd (omega arith)
priced (token ∷ tokens) (p ∷ ps) same = let less : length ps ≡ length tokens = omega arith in omega (arith, priced tokens ps less)

as_many : (m n : ℕ) → m ≡ n → (m == n) ≡ true
as_many m n e = grind (arith, nat_tests)

row_passed : {B : Type 0} (test : Bool) (rest : Result B Refusal) (made : B) → (if test then rest else Err BadCommand) ≡ Ok made → (test ≡ true) × (rest ≡ Ok made)
row_passed true rest made e = (refl, e)
row_passed false rest made e = cc

pub prices-is : (tokens : List (List ℕ)) (d : Data) (ps : List ℕ) → as_prices tokens d ≡ Ok ps → (d ≡ list (map price_value (zip tokens ps))) × (length ps ≡ length tokens) × ArePrices ps
unfolding as_prices
prices-is tokens d ps e =
    let ds = given (as_list d) _ ps e in
    let found = given (prices_row tokens ds.value) _ ps ds.after in
    let both = passed (list_all is_price found.value) found.value ps found.after in
    let row = row_passed (length ds.value == length tokens) (each_price tokens ds.value) found.value found.was in
    let is = each_price-is tokens ds.value found.value row.1 in
    subst (λ (l : List ℕ). (d ≡ list (map price_value (zip tokens l))) × (length l ≡ length tokens) × ArePrices l) both.1
    (list-is d ds.value ds.was ∙ ap list is.0, is.1, prices_fit found.value both.0)

prices_row-of : (tokens : List (List ℕ)) (ps : List ℕ) → length ps ≡ length tokens → prices_row tokens (map price_value (zip tokens ps)) ≡ Ok ps
prices_row-of tokens ps same = rw (as_many _ _ (priced tokens ps same)) (each_price-of tokens ps same)

pub prices-of : (tokens : List (List ℕ)) (ps : List ℕ) → length ps ≡ length tokens → ArePrices ps → as_prices tokens (list (map price_value (zip tokens ps))) ≡ Ok ps
unfolding as_prices
prices-of tokens ps same fit =
    let next : List Data → Result (List ℕ) Refusal = λ ds. prices_row tokens ds >>= λ prices. value_if (list_all is_price prices) prices in
    ap (λ o. o >>= next) (list-of (map price_value (zip tokens ps)))
    ∙ (ap (λ o. o >>= λ prices. value_if (list_all is_price prices) prices) (prices_row-of tokens ps same) ∙ fits (list_all is_price ps) ps (prices_pass ps fit))

-- ---- legs

side-is : (pool : ProblemPool) (text : List ℕ) (zero_in : Bool) → side_of pool text ≡ Ok zero_in → text ≡ (if zero_in then token0_of pool else token1_of pool)
side-is pool text zero_in e = pick (bytes_eq text (token0_of pool)) (bytes_eq text (token1_of pool)) refl refl e
  where
    pick : (a b : Bool) → bytes_eq text (token0_of pool) ≡ a → bytes_eq text (token1_of pool) ≡ b
        → (◌≡◌ {A = Result Bool Refusal} (if a then Ok true else (if b then Ok false else Err BadCommand)) (Ok zero_in)) → text ≡ (if zero_in then token0_of pool else token1_of pool)
    pick true b ea eb h = subst (λ (z : Bool). text ≡ (if z then token0_of pool else token1_of pool)) (same_answer true zero_in h) ((bytes_eq-Decides text (token0_of pool)).0 ea)
    pick false true ea eb h = subst (λ (z : Bool). text ≡ (if z then token0_of pool else token1_of pool)) (same_answer false zero_in h) ((bytes_eq-Decides text (token1_of pool)).0 eb)
    pick false false ea eb h = cc

apart_false : (a b : List ℕ) → a ≢ b → bytes_eq a b ≡ false
apart_false a b apart = pick (bytes_eq a b) refl
  where
    pick : (t : Bool) → bytes_eq a b ≡ t → t ≡ false
    pick true e = absurd (apart ((bytes_eq-Decides a b).0 e))
    pick false e = refl

side-of : (pool : ProblemPool) (zero_in : Bool) → token0_of pool ≢ token1_of pool → side_of pool (if zero_in then token0_of pool else token1_of pool) ≡ Ok zero_in
side-of pool true apart = rw ((bytes_eq-Decides (token0_of pool) (token0_of pool)).1 refl) refl
side-of pool false apart =
    rw (apart_false (token1_of pool) (token0_of pool) (λ e. apart (sym e)), (bytes_eq-Decides (token1_of pool) (token1_of pool)).1 refl) refl

-- the names of the pools ascend, and are spelled as names are
pub record AreNamed (pools : List ProblemPool) : Type 0 where
  pub ascend : AllPairs (λ (a b : ProblemPool). IsBefore a.name b.name) pools
  pub differ : (k : ℕ) (d : ProblemPool) → k < length pools → token0_of (get_or pools k d) ≢ token1_of (get_or pools k d)

lt_from : (m n : ℕ) → nat_lt m n ≡ true → m < n
lt_from m n e = grind (arith, nat_tests)

place-is : (pools : List ProblemPool) (name : List ℕ) (k : ℕ) → place_of pools name ≡ Ok k → (k < length pools) × (name ≡ (get_or pools k no_pool).name)
place-is pools name k e =
    let both = passed (nat_lt (pool_place pools name) (length pools)) (pool_place pools name) k e in
    let lt = lt_from (pool_place pools name) (length pools) both.0 in
    subst (λ (j : ℕ). (j < length pools) × (name ≡ (get_or pools j no_pool).name)) both.1
    (lt, (bytes_eq-Decides name (get_or pools (pool_place pools name) no_pool).name).0 (passes_at_first (λ (pool : ProblemPool). bytes_eq name pool.name) pools no_pool lt))

place-of : (pools : List ProblemPool) (k : ℕ) → AreNamed pools → k < length pools → place_of pools (get_or pools k no_pool).name ≡ Ok k
place-of pools k named lt =
    let name = (get_or pools k no_pool).name in
    place-first pools name k no_pool lt
    (λ j before. apart_false name (get_or pools j no_pool).name (λ e. before-apart _ _ (named.ascend j k no_pool before lt) (sym e)))
    ((bytes_eq-Decides name name).1 refl)

-- a leg over the pools whose amounts are amounts
pub record FitsLeg (pools : List ProblemPool) (leg : Leg) : Type 0 where
  pub there : leg.pool < length pools
  pub input : leg.input ≤ AMOUNT_LIMIT
  pub output : leg.output ≤ AMOUNT_LIMIT

leg_parts-is : (pools : List ProblemPool) (n t a b : Data) (leg : Leg) → leg_row pools (n ∷ t ∷ a ∷ b ∷ []) ≡ Ok leg → (list (n ∷ t ∷ a ∷ b ∷ []) ≡ leg_value pools leg) × FitsLeg pools leg
leg_parts-is pools n t a b leg e =
    let name = given (as_text n) _ leg e in
    let place = given (place_of pools name.value) _ leg name.after in
    let text = given (as_text t) _ leg place.after in
    let side = given (side_of (slice_index_or pools place.value no_pool) text.value) _ leg text.after in
    let input = given (as_amount a) _ leg side.after in
    let output = given (as_amount b) _ leg input.after in
    let at = place-is pools name.value place.value place.was in
    let enters = side-is (slice_index_or pools place.value no_pool) text.value side.value side.was in
    let i = amount-is a input.value input.was in
    let o = amount-is b output.value output.was in
    let P : Leg → Type 0 = λ l. (list (n ∷ t ∷ a ∷ b ∷ []) ≡ leg_value pools l) × FitsLeg pools l in
    subst P (same_answer _ leg output.after) (
      ap list (also (text-is n name.value name.was ∙ ap string at.1) (also (text-is t text.value text.was ∙ ap string enters) (also i.0 (also o.0 done)))),
      record { there = at.0; input = i.1; output = o.1 },
    )

leg_row-is : (pools : List ProblemPool) (ds : List Data) (leg : Leg) → leg_row pools ds ≡ Ok leg → (list ds ≡ leg_value pools leg) × FitsLeg pools leg
leg_row-is pools [] leg e = cc
leg_row-is pools (n ∷ []) leg e = cc
leg_row-is pools (n ∷ t ∷ []) leg e = cc
leg_row-is pools (n ∷ t ∷ a ∷ []) leg e = cc
leg_row-is pools (n ∷ t ∷ a ∷ b ∷ []) leg e = leg_parts-is pools n t a b leg e
leg_row-is pools (n ∷ t ∷ a ∷ b ∷ x ∷ xs) leg e = cc

leg-is : (pools : List ProblemPool) (d : Data) (leg : Leg) → as_leg pools d ≡ Ok leg → (d ≡ leg_value pools leg) × FitsLeg pools leg
unfolding as_leg
leg-is pools d leg e =
    let ds = given (as_list d) _ leg e in
    let is = leg_row-is pools ds.value leg ds.after in
    (list-is d ds.value ds.was ∙ is.0, is.1)

leg_row-of : (pools : List ProblemPool) (leg : Leg) → AreNamed pools → FitsLeg pools leg →
    leg_row pools (string (leg_pool pools leg).name ∷ string (token_in pools leg) ∷ whole leg.input ∷ whole leg.output ∷ []) ≡ Ok leg
leg_row-of pools leg named fit =
    rw (place-of pools leg.pool named fit.there, side-of (leg_pool pools leg) leg.zero_in (named.differ leg.pool no_pool fit.there), amount-of leg.input fit.input, amount-of leg.output fit.output) refl

leg-of : (pools : List ProblemPool) → AreNamed pools → (leg : Leg) → FitsLeg pools leg → as_leg pools (leg_value pools leg) ≡ Ok leg
unfolding as_leg
leg-of pools named leg fit = leg_row-of pools leg named fit

few_from : (n : ℕ) → nat_le n 256 ≡ true → n ≤ 256
few_from n e = grind (arith, nat_tests)

few_test : (n : ℕ) → n ≤ 256 → nat_le n 256 ≡ true
few_test n le = grind (arith, nat_tests)

pub legs-is : (pools : List ProblemPool) (d : Data) (legs : List Leg) → as_legs pools d ≡ Ok legs → (d ≡ list (map (leg_value pools) legs)) × (length legs ≤ 256) × All (FitsLeg pools) legs
unfolding as_legs
legs-is pools d legs e =
    let ds = given (as_list d) _ legs e in
    let row = row_passed (nat_le (length ds.value) 256) (each (as_leg pools) ds.value) legs ds.after in
    let is = each-is (as_leg pools) (leg_value pools) (FitsLeg pools) (leg-is pools) ds.value legs row.1 in
    let few = few_from (length ds.value) row.0 in
    let count : length ds.value ≡ length legs = ap length is.0 ∙ length-map legs (leg_value pools) in
    (list-is d ds.value ds.was ∙ ap list is.0, omega (arith, few, count), All-from_recursion (FitsLeg pools) legs is.1)

pub legs-of : (pools : List ProblemPool) (legs : List Leg) → AreNamed pools → length legs ≤ 256 → All (FitsLeg pools) legs → as_legs pools (list (map (leg_value pools) legs)) ≡ Ok legs
unfolding as_legs
legs-of pools legs named few all =
    let count : length (map (leg_value pools) legs) ≡ length legs = length-map legs (leg_value pools) in
    let short : length (map (leg_value pools) legs) ≤ 256 = omega (arith, few, count) in
    ap (λ o. o >>= legs_row pools) (list-of (map (leg_value pools) legs))
    ∙ (ap (λ t. if t then each (as_leg pools) (map (leg_value pools) legs) else Err BadCommand) (few_test _ short)
    ∙ each-of (as_leg pools) (leg_value pools) (FitsLeg pools) (leg-of pools named) legs (by_items (FitsLeg pools) legs all))
