-- The hops of a path by their number.
use Rattle.std.proofs.Common.{◌≡◌, ℕ, ◌≤◌, List, [], ◌∷◌, length, take, arith, zero, suc, refl, ap, subst}
use Rattle.std.specs.Prelude.{All}
use Rattle.std.proofs.lemmas.List.{take_all}
use Rattle.amm_model.specs.declared.problem.ProblemPool.{ProblemPool}
use Rattle.amm_model.specs.declared.route.Hop.{Hop}
use Rattle.amm_model.specs.Paths.{IsHop}
use Rattle.amm_graph.specs.declared.path.Path.{Path}
use Rattle.amm_graph.specs.Hops.{hops_of}

some : (a b c : Hop) (n : ℕ) → 1 ≤ length (take n (a ∷ b ∷ c ∷ [])) → 1 ≤ n
some a b c zero long = absurd (omega arith)
some a b c (suc n) long = omega arith

three : (a b c : Hop) (n : ℕ) → 1 ≤ n → (n ≡ 1 → ⊥) → (n ≡ 2 → ⊥) → take n (a ∷ b ∷ c ∷ []) ≡ a ∷ b ∷ c ∷ []
three a b c zero least one two = absurd (omega arith)
three a b c (suc zero) least one two = absurd (one refl)
three a b c (suc (suc zero)) least one two = absurd (two refl)
three a b c (suc (suc (suc n))) least one two = take_all (suc (suc (suc n))) (a ∷ b ∷ c ∷ []) (omega arith)

pub hops-one : (path : Path) → path.count ≡ 1 → hops_of path ≡ path.hop0 ∷ []
hops-one path is = ap (λ (n : ℕ). take n (path.hop0 ∷ path.hop1 ∷ path.hop2 ∷ [])) is

pub hops-two : (path : Path) → path.count ≡ 2 → hops_of path ≡ path.hop0 ∷ path.hop1 ∷ []
hops-two path is = ap (λ (n : ℕ). take n (path.hop0 ∷ path.hop1 ∷ path.hop2 ∷ [])) is

pub hops-three : (path : Path) → 1 ≤ length (hops_of path) → (path.count ≡ 1 → ⊥) → (path.count ≡ 2 → ⊥) → hops_of path ≡ path.hop0 ∷ path.hop1 ∷ path.hop2 ∷ []
hops-three path long one two = three path.hop0 path.hop1 path.hop2 path.count (some path.hop0 path.hop1 path.hop2 path.count long) one two

first-of : (pools : List ProblemPool) (a b c : Hop) (n : ℕ) → 1 ≤ n → All (IsHop pools) (take n (a ∷ b ∷ c ∷ [])) → IsHop pools a
first-of pools a b c zero least all = absurd (omega arith)
first-of pools a b c (suc n) least all = all 0 a (omega arith)

second-of : (pools : List ProblemPool) (a b c : Hop) (n : ℕ) → 1 ≤ n → (n ≡ 1 → ⊥) → All (IsHop pools) (take n (a ∷ b ∷ c ∷ [])) → IsHop pools b
second-of pools a b c zero least one all = absurd (omega arith)
second-of pools a b c (suc zero) least one all = absurd (one refl)
second-of pools a b c (suc (suc n)) least one all = all 1 b (omega arith)

-- the hops of a path over pools are over pools
pub first-over : (pools : List ProblemPool) (path : Path) → 1 ≤ length (hops_of path) → All (IsHop pools) (hops_of path) → IsHop pools path.hop0
first-over pools path long all = first-of pools path.hop0 path.hop1 path.hop2 path.count (some path.hop0 path.hop1 path.hop2 path.count long) all

pub second-over : (pools : List ProblemPool) (path : Path) → 1 ≤ length (hops_of path) → (path.count ≡ 1 → ⊥) → All (IsHop pools) (hops_of path) → IsHop pools path.hop1
second-over pools path long one all = second-of pools path.hop0 path.hop1 path.hop2 path.count (some path.hop0 path.hop1 path.hop2 path.count long) one all

pub third-over : (pools : List ProblemPool) (path : Path) → 1 ≤ length (hops_of path) → (path.count ≡ 1 → ⊥) → (path.count ≡ 2 → ⊥) → All (IsHop pools) (hops_of path) → IsHop pools path.hop2
third-over pools path long one two all = subst (All (IsHop pools)) (hops-three path long one two) all 2 path.hop2 (omega arith)
