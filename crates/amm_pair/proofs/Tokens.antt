-- The two tokens of a pool differ.
use Rattle.std.proofs.Common.{◌≡◌, ◌≢◌, true, List, ℕ, sym, ap, ◌∙◌}
use Rattle.std.specs.Prelude.{IsTrue}
use Rattle.std.proofs.lemmas.Cmp.{tied_itself, nat_list_cmp_total}
use Rattle.amm_names.specs.Pools.{is_pool_name, is_before, pool_token0, pool_token1}
use Rattle.amm_names.proofs.Spelling.{parts_are_pool}

not_before_itself : (x : List ℕ) → is_before x x ≡ true → ⊥
not_before_itself x before = let tied = tied_itself nat_list_cmp_total x in cc

pub tokens_differ : (pool : List ℕ) → IsTrue (is_pool_name pool) → pool_token0 pool ≢ pool_token1 pool
tokens_differ pool named same = not_before_itself (pool_token1 pool) (ap (λ (x : List ℕ). is_before x (pool_token1 pool)) (sym same) ∙ (parts_are_pool pool named).ascending)
