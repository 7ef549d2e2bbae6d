-- What holds of all places of a path, hop by hop.
use Rattle.std.proofs.Common.{◌≡◌, ℕ, ◌<◌, List, [], ◌∷◌, take, arith, zero, suc, subst, sym}
use Rattle.std.specs.Prelude.{◌↔◌, All}
use Rattle.std.proofs.lemmas.List.{take_all}
use Rattle.std.proofs.lemmas.List.Elements.{All-cons}
use Rattle.amm_model.specs.declared.route.Hop.{Hop}
use Rattle.amm_model.specs.Paths.{hop_places}
use Rattle.amm_graph.specs.declared.path.Path.{Path}
use Rattle.amm_graph.specs.Hops.{hops_of}

abbrev pub EachHop : (P : ℕ → Type 0) → (count a b c : ℕ) → Type 0
EachHop P count a b c = (0 < count → P a) × (1 < count → P b) × (2 < count → P c)

none : (P : ℕ → Type 0) → All P []
none P = λ k d below. absurd (omega arith)

by_count : (P : ℕ → Type 0) (a b c : Hop) (n : ℕ) → All P (hop_places (take n (a ∷ b ∷ c ∷ []))) ↔ EachHop P n a.pool b.pool c.pool
by_count P a b c zero = (λ all. ((λ l. absurd (omega arith)), (λ l. absurd (omega arith)), (λ l. absurd (omega arith))), λ each. none P)
by_count P a b c (suc zero) = (
  λ all. ((λ l. all 0 0 (omega arith)), (λ l. absurd (omega arith)), (λ l. absurd (omega arith))),
  λ each. All-cons P a.pool [] (each.0 (omega arith)) (none P),
)
by_count P a b c (suc (suc zero)) = (
  λ all. ((λ l. all 0 0 (omega arith)), (λ l. all 1 0 (omega arith)), (λ l. absurd (omega arith))),
  λ each. All-cons P a.pool (b.pool ∷ []) (each.0 (omega arith)) (All-cons P b.pool [] (each.1 (omega arith)) (none P)),
)
by_count P a b c (suc (suc (suc n))) =
    let whole : a ∷ b ∷ c ∷ take n [] ≡ a ∷ b ∷ c ∷ [] = take_all (suc (suc (suc n))) (a ∷ b ∷ c ∷ []) (omega arith) in
    subst (λ (hops : List Hop). All P (hop_places hops) ↔ EachHop P (suc (suc (suc n))) a.pool b.pool c.pool) (sym whole) (
      (λ all. ((λ l. all 0 0 (omega arith)), (λ l. all 1 0 (omega arith)), (λ l. all 2 0 (omega arith)))),
      (λ each. All-cons P a.pool (b.pool ∷ c.pool ∷ []) (each.0 (omega arith)) (All-cons P b.pool (c.pool ∷ []) (each.1 (omega arith)) (All-cons P c.pool [] (each.2 (omega arith)) (none P)))),
    )

pub each_hop : (P : ℕ → Type 0) (path : Path) → All P (hop_places (hops_of path)) ↔ EachHop P path.count path.hop0.pool path.hop1.pool path.hop2.pool
each_hop P path = by_count P path.hop0 path.hop1 path.hop2 path.count
