-- The taken shares, and so the spread value, are determined.
use Rattle.std.proofs.Common.{◌≡◌, ℕ, ◌-◌, ◌≤◌, inl, inr, ◌++◌, List, [], ◌∷◌, arith, refl, ap, sym, subst, ◌∙◌}
use Rattle.std.specs.Prelude.{sum_by}
use Rattle.amm_model.specs.declared.route.Hop.{Hop}
use Rattle.amm_model.specs.Paths.{ComesBefore, hop_places}
use Rattle.amm_model.specs.Spreads.{AreTaken, AtLeastSpread, IsPreferred, IsSpreadValue, Share, Spread, share_output}

pub before-not-after : (ps qs : List ℕ) → ComesBefore ps qs → ComesBefore qs ps → ⊥
before-not-after [] qs before after = before
before-not-after (p ∷ ps) [] before after = before
before-not-after (p ∷ ps) (q ∷ qs) (inl lt) (inl gt) = omega arith
before-not-after (p ∷ ps) (q ∷ qs) (inl lt) (inr same) = let e = same.0 in omega arith
before-not-after (p ∷ ps) (q ∷ qs) (inr same) (inl gt) = let e = same.0 in omega arith
before-not-after (p ∷ ps) (q ∷ qs) (inr same) (inr other) = before-not-after ps qs same.1 other.1

pub not-before-itself : (ps qs : List ℕ) → ps ≡ qs → ComesBefore ps qs → ⊥
not-before-itself ps qs e before = before-not-after ps qs before (subst (λ (xs : List ℕ). ComesBefore xs ps) e (subst (ComesBefore ps) (sym e) before))

share-same : (a b : Share) → a.path ≡ b.path → a.parts ≡ b.parts → a ≡ b
share-same a b path parts =
    ap (λ (hops : List Hop). let s : Share = record { path = hops; parts = a.parts } in s) path ∙ ap (λ (n : ℕ). let s : Share = record { path = b.path; parts = n } in s) parts

-- two shares, each preferred to the other, are one
one-share : (spread : Spread) (a b : Share) → IsPreferred spread a b → IsPreferred spread b a → a ≡ b
one-share spread a b (inl more) (inl less) = absurd (omega arith)
one-share spread a b (inl more) (inr (inl same)) = absurd (let e = same.0 in omega arith)
one-share spread a b (inl more) (inr (inr same)) = absurd (let e = same.0 in omega arith)
one-share spread a b (inr (inl same)) (inl less) = absurd (let e = same.0 in omega arith)
one-share spread a b (inr (inl same)) (inr (inl other)) = absurd (before-not-after (hop_places a.path) (hop_places b.path) same.1 other.1)
one-share spread a b (inr (inl same)) (inr (inr other)) = absurd (not-before-itself (hop_places a.path) (hop_places b.path) (ap hop_places (sym other.1)) same.1)
one-share spread a b (inr (inr same)) (inl less) = absurd (let e = same.0 in omega arith)
one-share spread a b (inr (inr same)) (inr (inl other)) = absurd (not-before-itself (hop_places b.path) (hop_places a.path) (ap hop_places (sym same.1)) other.1)
one-share spread a b (inr (inr same)) (inr (inr other)) = share-same a b same.1 (omega (arith, same.2, other.2))

pub taken-once : (spread : Spread) (left : ℕ) (used : List ℕ) (xs ys : List Share) →
    AreTaken spread left used xs → AreTaken spread left used ys → xs ≡ ys
taken-once spread left used [] [] first second = refl
taken-once spread left used [] (b ∷ ys) first second = absurd (let none = first b second.0 in omega (arith, second.1))
taken-once spread left used (a ∷ xs) [] first second = absurd (let none = second a first.0 in omega (arith, first.1))
taken-once spread left used (a ∷ xs) (b ∷ ys) first second =
    let same = one-share spread a b (first.2 b second.0) (second.2 a first.0) in
    let rest = taken-once spread (left - a.parts) (used ++ hop_places a.path) xs ys first.3
    (subst (λ (c : Share). AreTaken spread (left - c.parts) (used ++ hop_places c.path) ys) (sym same) second.3) in
    cc

pub spread-once : (spread : Spread) (v w : ℕ) → IsSpreadValue spread v → IsSpreadValue spread w → v ≡ w
spread-once spread v w first second =
    first.total ∙ ap (sum_by (share_output spread)) (taken-once spread 16 [] first.shares second.shares first.taken second.taken) ∙ sym second.total

-- so what delivers as much as the shares that are taken delivers at least each spread value
pub at-least-each : (spread : Spread) (shares : List Share) (amount : ℕ) → AreTaken spread 16 [] shares → sum_by (share_output spread) shares ≤ amount → AtLeastSpread spread amount
at-least-each spread shares amount taken enough value other =
    let same = ap (sum_by (share_output spread)) (taken-once spread 16 [] shares other.shares taken other.taken) in
    omega (arith, other.total)
