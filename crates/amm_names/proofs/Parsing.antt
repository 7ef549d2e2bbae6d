-- A pool's name is found from left to right in its bytes.
use Rattle.std.proofs.Common.{arith, ◌≡◌, ◌≢◌, refl, sym, ◌∙◌, ap, ℕ, Bool, true, false, ◌+◌, ◌<◌, ◌==◌, nat_lt, List, ◌∷◌, ◌++◌, length, take, drop, get_or}
use Rattle.std.specs.Prelude.{IsTrue, cond, Some, None}
use Rattle.std.specs.List.{position, position_or_len, before_first, after_first}
use Rattle.std.proofs.lemmas.Bool.{eqb-true}
use Rattle.std.proofs.lemmas.Bool.Decides.{nat_tests}
use Rattle.std.proofs.lemmas.List.Sums.{split_at_first, passes_at_first}
use Rattle.amm_names.specs.Pools.{is_fee, fee_spelling, pool_spelling, is_pool_name, pool_token1, pool_token0, pool_fee}
use Rattle.amm_names.proofs.Spelling.{IsPool, tail_of_spelling, parts_are_pool, parts_spell, spelling_names_pool}

placed : (first long at : ℕ) → cond (nat_lt first long) (Some first) None ≡ Some at → (first ≡ at) × (first < long)
placed first long at is = by (nat_lt first long) refl is
  where
    by : (b : Bool) → nat_lt first long ≡ b → cond b (Some first) None ≡ Some at → (first ≡ at) × (first < long)
    by true below is = (cc, grind (arith, nat_tests))
    by false below is = cc

-- bytes are what stands before the first stop, the stop, and what stands behind it
pub split_there : (bytes : List ℕ) (stop at : ℕ) → position (λ b. b == stop) bytes ≡ Some at → bytes ≡ take at bytes ++ stop ∷ drop (at + 1) bytes
split_there bytes stop at found =
    let is_stop = λ (b : ℕ). b == stop in
    let there = placed (position_or_len is_stop bytes) (length bytes) at found in
    let here : get_or bytes (position_or_len is_stop bytes) 0 ≡ stop = eqb-true _ stop (passes_at_first is_stop bytes 0 there.1) in
    split_at_first is_stop bytes 0 there.1 ∙ ap (λ b. before_first is_stop bytes ++ b ∷ after_first is_stop bytes) here ∙ ap (λ n. take n bytes ++ stop ∷ drop (n + 1) bytes) there.0

-- no fee, no name
pub no_fee : (bytes tail : List ℕ) → tail ≡ after_first (λ b. b == 47) bytes → ((fee : ℕ) → IsTrue (is_fee fee) → tail ≢ before_first (λ b. b == 58) tail ++ fee_spelling fee) → is_pool_name bytes ≡ false
unfolding pool_token1
no_fee bytes tail is none = by (is_pool_name bytes) refl
  where
    by : (name : Bool) → is_pool_name bytes ≡ name → name ≡ false
    by false e = refl
    by true e =
        let pool = parts_are_pool bytes e in
        let spelled : tail ≡ pool_token1 bytes ++ fee_spelling (pool_fee bytes) = is ∙ ap (after_first (λ b. b == 47)) (parts_spell bytes e) ∙ tail_of_spelling (pool_token0 bytes) (pool_token1 bytes) (pool_fee bytes) pool in
        absurd (none (pool_fee bytes) pool.at_a_fee (spelled ∙ ap (λ xs. before_first (λ b. b == 58) xs ++ fee_spelling (pool_fee bytes)) (sym is)))

pub is_name : (bytes a b : List ℕ) (fee : ℕ) → IsPool a b fee → bytes ≡ pool_spelling a b fee → is_pool_name bytes ≡ true
is_name bytes a b fee pool is = rw is (spelling_names_pool a b fee pool)
