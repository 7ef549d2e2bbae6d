-- The pool of two tokens, by their order.
use Rattle.std.proofs.Common.{◌≡◌, refl, sym, ◌∙◌, ap, ℕ, true, List}
use Rattle.std.specs.Prelude.{Some, None}
use Rattle.std.specs.declared.cmp.Ordering.TheVariants.{Less, Equal, Greater}
use Rattle.std.specs.Ordering.{nat_cmp, is_eq, ordering_reverse}
use Rattle.std.specs.Str.{bytes_eq}
use Rattle.std.specs.Cmp.Lexicographic.{slice_cmp, nat_list_cmp_total}
use Rattle.std.proofs.lemmas.Map.Text.{is_eq-slice_cmp}
use Rattle.amm_names.specs.Pools.{pool_between, pool_spelling}

module _ (a b : List ℕ) (fee : ℕ) where
  pub turned : slice_cmp nat_cmp a b ≡ Greater → slice_cmp nat_cmp b a ≡ Less
  turned e = nat_list_cmp_total.antisymm b a ∙ ap ordering_reverse e

  same : slice_cmp nat_cmp a b ≡ Equal → bytes_eq a b ≡ true
  same e = sym (is_eq-slice_cmp a b) ∙ ap is_eq e

  pub below : slice_cmp nat_cmp a b ≡ Less → pool_between a b fee ≡ Some (pool_spelling a b fee)
  unfolding pool_between
  below e = rw (sym (is_eq-slice_cmp a b) ∙ ap is_eq e, e) refl

  pub level : slice_cmp nat_cmp a b ≡ Equal → pool_between a b fee ≡ None
  unfolding pool_between
  level e = rw (same e) refl

  pub above : slice_cmp nat_cmp a b ≡ Greater → pool_between a b fee ≡ Some (pool_spelling b a fee)
  unfolding pool_between
  above e = rw (sym (is_eq-slice_cmp a b) ∙ ap is_eq e, e) refl
