-- The forms of values give names that are names, and numbers and lengths within their limits.
use Rattle.std.proofs.Common.{◌≡◌, ◌≤◌, ◌∷◌, ℕ, suc, nat_le, Bool, true, false, ◌&&◌, List, [], length, map, Result, Ok, refl, ap, subst, arith}
use Rattle.std.specs.Prelude.{IsTrue, AllPairs}
use Rattle.std.specs.List.{All, list_all}
use Rattle.std.proofs.lemmas.List.Elements.{All-nil, All-cons}
use Rattle.std.proofs.lemmas.List.Kept.{AllPairs-cons}
use Rattle.amm_model.specs.Json.{each}
use Rattle.std.proofs.lemmas.Bool.Decides.{nat_tests}
use Rattle.serde_json.specs.Data.{Data, null, boolean, number, string, array, object}
use Rattle.amm_names.specs.Names.{is_token_name}
use Rattle.amm_names.specs.Pools.{is_before, is_pool_name, is_fee}
use Rattle.amm_model.specs.declared.fault.Refusal.{Refusal}
use Rattle.amm_model.specs.declared.problem.Part.{Part}
use Rattle.amm_model.specs.declared.route_path.RoutePath.{RoutePath}
use Rattle.amm_model.specs.Outcome.{◌>>=◌}
use Rattle.amm_model.specs.Swap.{IsFee}
use Rattle.amm_model.specs.Forms.{as_text, as_list, as_token, as_pool, as_path, as_amount, as_fee, as_whole, fee_behind, value_if, Hop, hops, path_along, part_of_list, as_part, as_parts, are_rising}
use Rattle.amm_model.specs.declared.limits.TheConstants.{AMOUNT_LIMIT, PART_LIMIT, PATH_LEAST, PATH_LIMIT}
use Rattle.amm_model.specs.Fits.{IsAmount, IsPath, FitParts}
use Rattle.amm_model.proofs.Guards.{given, same_answer}

-- what was fitting passed the test
pub passed : {A : Type 0} (test : Bool) (x made : A) → value_if test x ≡ Ok made → IsTrue test × (x ≡ made)
passed true x made is = (refl, same_answer x made is)
passed false x made is = cc

-- so did what a form gave, and then was tested
passed_of : {A : Type 0} (first : Result A Refusal) (test : A → Bool) (made : A) → (first >>= λ x. value_if (test x) x) ≡ Ok made → IsTrue (test made)
passed_of first test made is =
    let one = given first _ made is in
    let both = passed (test one.value) one.value made one.after in
    subst (λ x. IsTrue (test x)) both.1 both.0

pub token_named : (d : Data) (name : List ℕ) → as_token d ≡ Ok name → IsTrue (is_token_name name)
unfolding as_token
token_named d name is = passed_of (as_text d) is_token_name name is

pub pool_named : (d : Data) (name : List ℕ) → as_pool d ≡ Ok name → IsTrue (is_pool_name name)
unfolding as_pool
pool_named d name is = passed_of (as_text d) is_pool_name name is

small : (n : ℕ) → IsTrue (nat_le n AMOUNT_LIMIT) → IsAmount n
small n is = grind (arith, nat_tests)

pub amount_small : (d : Data) (n : ℕ) → as_amount d ≡ Ok n → IsAmount n
unfolding as_amount
amount_small d n is = small n (passed_of (as_whole d) (λ x. nat_le x AMOUNT_LIMIT) n is)

fee_fits : (d : Data) (fee : ℕ) → as_fee d ≡ Ok fee → IsFee fee
unfolding as_fee
fee_fits d fee is = passed_of (as_whole d) is_fee fee is

pub fee_behind_fits : (rest : List Data) (fee : ℕ) → fee_behind rest ≡ Ok fee → IsFee fee
fee_behind_fits [] fee is = subst IsFee (same_answer 3 fee is) refl
fee_behind_fits (d ∷ []) fee is = fee_fits d fee is
fee_behind_fits (d ∷ e ∷ more) fee is = cc

-- ---- paths

pub record HopsFit (hs : List Hop) : Type 0 where
  pub fees : All IsFee (map (λ hop. hop.fee) hs)
  pub count : length (map (λ hop. hop.fee) hs) ≡ length (map (λ hop. hop.token) hs)

no_hops_fit : HopsFit []
no_hops_fit = record { fees = All-nil IsFee; count = refl }

hop_fits : (hop : Hop) (more : List Hop) → IsFee hop.fee → HopsFit more → HopsFit (hop ∷ more)
hop_fits hop more fee fit = record {
  fees = All-cons IsFee hop.fee (map (λ h. h.fee) more) fee fit.fees;
  count = ap suc fit.count;
}

at_three : (next : Data) (rest : List Data) (hs : List Hop) → ((more : List Hop) → hops rest ≡ Ok more → HopsFit more)
    → (as_token next >>= (λ token. hops rest >>= (λ more. Ok (record { fee = 3; token = token } ∷ more)))) ≡ Ok hs → HopsFit hs
at_three next rest hs fit is =
    let token = given (as_token next) _ hs is in
    let more = given (hops rest) _ hs token.after in
    subst HopsFit (same_answer _ hs more.after) (hop_fits (record { fee = 3; token = token.value }) more.value refl (fit more.value more.was))

hops_fit : (ds : List Data) (hs : List Hop) → hops ds ≡ Ok hs → HopsFit hs
unfolding hops
hops_fit [] hs is = subst HopsFit (same_answer [] hs is) no_hops_fit
hops_fit (number n ∷ []) hs is = at_three (number n) [] hs (λ more e. hops_fit [] more e) is
hops_fit (number n ∷ next ∷ rest) hs is =
    let fee = given (as_fee (number n)) _ hs is in
    let token = given (as_token next) _ hs fee.after in
    let more = given (hops rest) _ hs token.after in
    subst HopsFit (same_answer _ hs more.after)
    (hop_fits (record { fee = fee.value; token = token.value }) more.value (fee_fits (number n) fee.value fee.was) (hops_fit rest more.value more.was))
hops_fit (null ∷ rest) hs is = at_three null rest hs (λ more e. hops_fit rest more e) is
hops_fit (boolean b ∷ rest) hs is = at_three (boolean b) rest hs (λ more e. hops_fit rest more e) is
hops_fit (string s ∷ rest) hs is = at_three (string s) rest hs (λ more e. hops_fit rest more e) is
hops_fit (array vs ∷ rest) hs is = at_three (array vs) rest hs (λ more e. hops_fit rest more e) is
hops_fit (object ms ∷ rest) hs is = at_three (object ms) rest hs (λ more e. hops_fit rest more e) is

-- a path, but for how many tokens it has
pub record Along (path : RoutePath) : Type 0 where
  pub fees : All IsFee path.fees
  pub between : suc (length path.fees) ≡ length path.tokens

along_fits : (ds : List Data) (path : RoutePath) → path_along ds ≡ Ok path → Along path
along_fits [] path is = cc
along_fits (first ∷ rest) path is =
    let token = given (as_token first) _ path is in
    let more = given (hops rest) _ path token.after in
    let fit = hops_fit rest more.value more.was in
    subst Along (same_answer _ path more.after) (record {
      fees = fit.fees;
      between = ap suc fit.count;
    })

both_true : (b c : Bool) → IsTrue (b && c) → IsTrue b × IsTrue c
both_true true true is = (refl, refl)
both_true true false is = cc
both_true false c is = cc

within : (n : ℕ) → IsTrue (nat_le PATH_LEAST n) → IsTrue (nat_le n PATH_LIMIT) → (PATH_LEAST ≤ n) × (n ≤ PATH_LIMIT)
within n first second = (grind (arith, nat_tests), grind (arith, nat_tests))

pub path_fits : (d : Data) (path : RoutePath) → as_path d ≡ Ok path → IsPath path
unfolding as_path
path_fits d path is =
    let ds = given (as_list d) _ path is in
    let along = given (path_along ds.value) _ path ds.after in
    let both = passed (nat_le PATH_LEAST (length along.value.tokens) && nat_le (length along.value.tokens) PATH_LIMIT) along.value path along.after in
    let sides = both_true (nat_le PATH_LEAST (length along.value.tokens)) (nat_le (length along.value.tokens) PATH_LIMIT) both.0 in
    let size = within (length along.value.tokens) sides.0 sides.1 in
    let fit = along_fits ds.value along.value along.was in
    subst IsPath both.1 (record { fees = fit.fees; between = fit.between; least = size.0; most = size.1 })

-- ---- parts

part_small : (d : Data) (part : Part) → as_part d ≡ Ok part → IsAmount part.amount
unfolding as_part
part_small d part is =
    let ds = given (as_list d) _ part is in
    small_of ds.value part ds.after
  where
    small_of : (ds : List Data) (part : Part) → part_of_list ds ≡ Ok part → IsAmount part.amount
    small_of (token ∷ n ∷ []) part is =
        let token_read = given (as_token token) _ part is in
        let n_read = given (as_amount n) _ part token_read.after in
        subst (λ (p : Part). IsAmount p.amount) (same_answer _ part n_read.after) (amount_small n n_read.value n_read.was)
    small_of [] part is = cc
    small_of (a ∷ []) part is = cc
    small_of (a ∷ b ∷ c ∷ more) part is = cc

all_small : (ds : List Data) (parts : List Part) → each as_part ds ≡ Ok parts → All (λ (part : Part). IsAmount part.amount) parts
unfolding each
all_small [] parts is = subst (All (λ (part : Part). IsAmount part.amount)) (same_answer [] parts is) (All-nil (λ (part : Part). IsAmount part.amount))
all_small (d ∷ ds) parts is =
    let first = given (as_part d) _ parts is in
    let rest = given (each as_part ds) _ parts first.after in
    subst (All (λ (part : Part). IsAmount part.amount)) (same_answer _ parts rest.after)
    (All-cons (λ (part : Part). IsAmount part.amount) first.value rest.value (part_small d first.value first.was) (all_small ds rest.value rest.was))

rising_apart : (parts : List Part) → IsTrue (are_rising parts) → AllPairs (λ (a b : Part). IsTrue (is_before a.token b.token)) parts
rising_apart [] is = λ i j d lt within. absurd (omega arith)
rising_apart (part ∷ parts) is =
    let both = both_true (list_all (λ (later : Part). is_before part.token later.token) parts) (are_rising parts) is in
    AllPairs-cons (λ (a b : Part). IsTrue (is_before a.token b.token)) part parts (all_of (λ (later : Part). is_before part.token later.token) parts both.0) (rising_apart parts both.1)
  where
    all_of : (test : Part → Bool) (xs : List Part) → IsTrue (list_all test xs) → All (λ (x : Part). IsTrue (test x)) xs
    all_of test [] is = All-nil (λ (x : Part). IsTrue (test x))
    all_of test (x ∷ xs) is =
        let both = both_true (test x) (list_all test xs) is in
        All-cons (λ (x : Part). IsTrue (test x)) x xs both.0 (all_of test xs both.1)

one_to_eight : (n : ℕ) → IsTrue (nat_le 1 n) → IsTrue (nat_le n PART_LIMIT) → (1 ≤ n) × (n ≤ PART_LIMIT)
one_to_eight n first second = (grind (arith, nat_tests), grind (arith, nat_tests))

pub parts_fit : (d : Data) (parts : List Part) → as_parts d ≡ Ok parts → FitParts parts
unfolding as_parts
parts_fit d parts is =
    let ds = given (as_list d) _ parts is in
    let read = given (each as_part ds.value) _ parts ds.after in
    let n = length read.value in
    let all = passed (nat_le 1 n && nat_le n PART_LIMIT && are_rising read.value) read.value parts read.after in
    let front = both_true (nat_le 1 n && nat_le n PART_LIMIT) (are_rising read.value) all.0 in
    let sides = both_true (nat_le 1 n) (nat_le n PART_LIMIT) front.0 in
    let size = one_to_eight n sides.0 sides.1 in
    subst FitParts all.1 (record {
      least = size.0;
      most = size.1;
      rising = rising_apart read.value front.1;
      amounts = all_small ds.value read.value read.was;
    })
