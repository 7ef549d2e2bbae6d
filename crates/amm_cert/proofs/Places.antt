-- Where a pool stands.
use Rattle.std.proofs.Common.{◌≡◌, ℕ, ◌<◌, List, length, get_or, true, false, nat_lt, Ok, Err, refl, arith}
use Rattle.std.specs.Str.{bytes_eq}
use Rattle.std.proofs.lemmas.Bool.Decides.{nat_tests}
use Rattle.std.proofs.lemmas.List.Sums.{position_or_len_is}
use Rattle.amm_model.specs.declared.fault.Refusal.TheVariants.{BadCommand}
use Rattle.amm_model.specs.declared.problem.ProblemPool.{ProblemPool}
use Rattle.amm_model.specs.Routing.{no_pool}
use Rattle.amm_cert.specs.Rows.{pool_place, place_of}

within : (m n : ℕ) → m < n → nat_lt m n ≡ true
within m n lt = grind (arith, nat_tests)

outside : (m : ℕ) → nat_lt m m ≡ false
outside m = grind (arith, nat_tests)

-- the first pool of this name
pub place-first : (pools : List ProblemPool) (name : List ℕ) (i : ℕ) (d : ProblemPool) → i < length pools →
    ((k : ℕ) → k < i → bytes_eq name (get_or pools k d).name ≡ false) → bytes_eq name (get_or pools i d).name ≡ true → place_of pools name ≡ Ok i
place-first pools name i d lt before here =
    let is : pool_place pools name ≡ i = position_or_len_is (λ (pool : ProblemPool). bytes_eq name pool.name) pools i d (omega arith) before (λ _. here) in
    rw (is, within i (length pools) lt) refl

-- no pool has this name
pub place-none : (pools : List ProblemPool) (name : List ℕ) → ((k : ℕ) → k < length pools → bytes_eq name (get_or pools k no_pool).name ≡ false) → place_of pools name ≡ Err BadCommand
place-none pools name all =
    let is : pool_place pools name ≡ length pools = position_or_len_is (λ (pool : ProblemPool). bytes_eq name pool.name) pools (length pools) no_pool (omega arith) all (λ lt. absurd (omega arith)) in
    rw (is, outside (length pools)) refl
