-- A list by its items.
use Rattle.std.proofs.Common.{◌≡◌, List, [], ◌∷◌, length, get_or, arith}

pub listed_2 : {X : Type 0} (xs : List X) (a b : X) → length xs ≡ 2 → a ≡ get_or xs 0 a → b ≡ get_or xs 1 b → xs ≡ a ∷ b ∷ []
listed_2 (a' ∷ b' ∷ []) a b n p0 p1 = cc
listed_2 _ a b n p0 p1 = absurd (omega arith)
