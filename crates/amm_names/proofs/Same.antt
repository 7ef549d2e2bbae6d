-- Two lists are the same up to a place and at that place, or not up to the next.
use Rattle.std.proofs.Common.{◌≡◌, refl, sym, ap, ◌∙◌, arith, ℕ, zero, suc, ◌<◌, List, [], ◌∷◌, length, take, Bool, true, false, ◌&&◌, not, slice_index}
use Rattle.std.specs.Prelude.{nat_eq}
use Rattle.std.specs.Cmp.Lexicographic.{pointwise}

and_true : (b : Bool) → (b && true) ≡ b
and_true true = refl
and_true false = refl

and_assoc : (a b c : Bool) → (a && (b && c)) ≡ ((a && b) && c)
and_assoc true b c = refl
and_assoc false b c = refl

pub pointwise_step : (xs ys : List ℕ) (i : ℕ) → i < length xs → i < length ys →
    pointwise nat_eq (take (suc i) xs) (take (suc i) ys) ≡ (pointwise nat_eq (take i xs) (take i ys) && nat_eq (slice_index xs i) (slice_index ys i))
pointwise_step [] ys i within h = absurd (omega (arith, within))
pointwise_step (x ∷ xs) [] i within h = absurd (omega (arith, h))
pointwise_step (x ∷ xs) (y ∷ ys) zero within h = and_true (nat_eq x y)
pointwise_step (x ∷ xs) (y ∷ ys) (suc i) within h =
    ap (λ b. nat_eq x y && b) (pointwise_step xs ys i (omega (arith, within)) (omega (arith, h)))
    ∙ and_assoc (nat_eq x y) (pointwise nat_eq (take i xs) (take i ys)) (nat_eq (slice_index xs i) (slice_index ys i))
