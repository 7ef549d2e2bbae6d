-- Legs one list after another, and legs where more is held than they need.
use Rattle.std.proofs.Common.{◌≡◌, ◌≢◌, ℕ, ◌+◌, ◌-◌, ◌≤◌, ◌++◌, Bool, true, false, cond, List, [], ◌∷◌, arith, refl, sym, subst}
use Rattle.std.specs.Prelude.{All}
use Rattle.std.specs.Str.{bytes_eq}
use Rattle.std.proofs.lemmas.List.Elements.{All-cons, All-tail}
use Rattle.std.proofs.lemmas.Slice.Eq.{bytes_eq-Decides}
use Rattle.amm_model.specs.declared.problem.ProblemPool.{ProblemPool}
use Rattle.amm_model.specs.declared.route.Hop.{Hop}
use Rattle.amm_model.specs.declared.route.Leg.{Leg}
use Rattle.amm_names.specs.Names.{Name}
use Rattle.amm_model.specs.Legs.{AreLegs, Inventory, after_leg, after_legs, token_in, token_out, used_after}
use Rattle.amm_model.specs.Paths.{hop_gives, hop_places, legs_along}

pub joined : (pools : List ProblemPool) (used : List ℕ) (held : Inventory) (a b : List Leg) → AreLegs pools used held a → AreLegs pools (used_after used a) (after_legs pools held a) b →
    AreLegs pools used held (a ++ b) × (after_legs pools held (a ++ b) ≡ after_legs pools (after_legs pools held a) b)
joined pools used held [] b first second = (second, refl)
joined pools used held (leg ∷ a) b first second =
    let rest = joined pools (leg.pool ∷ used) (after_leg pools held leg) a b first.1 second in
    ((first.0, rest.0), rest.1)

-- a place off the pools used before and off a path's is off those used after it
pub off_path : (pools : List ProblemPool) (used : List ℕ) (hops : List Hop) (x p : ℕ) → All (λ (q : ℕ). p ≢ q) used → All (λ (q : ℕ). p ≢ q) (hop_places hops) →
    All (λ (q : ℕ). p ≢ q) (used_after used (legs_along pools hops x))
off_path pools used [] x p before path = before
off_path pools used (hop ∷ hops) x p before path =
    off_path pools (hop.pool ∷ used) hops (hop_gives pools hop x) p (All-cons (λ (q : ℕ). p ≢ q) hop.pool used (path 0 0 (omega arith)) before)
    (All-tail (λ (q : ℕ). p ≢ q) hop.pool (hop_places hops) path)

-- what is held beside is left
pub framed : (pools : List ProblemPool) (used : List ℕ) (held less more : Inventory) (legs : List Leg) → ((y : Name) → held y ≡ less y + more y) → AreLegs pools used less legs →
    (y : Name) → after_legs pools held legs y ≡ after_legs pools less legs y + more y
framed pools used held less more [] split legal y = split y
framed pools used held less more (leg ∷ legs) split legal y =
    framed pools (leg.pool ∷ used) (after_leg pools held leg) (after_leg pools less leg) more legs
    (λ n. by_token n (bytes_eq n (token_in pools leg)) (bytes_eq n (token_out pools leg)) (bytes_eq-Decides n (token_in pools leg)).0) legal.1 y
  where
    by_token : (n : Name) (b c : Bool) → (b ≡ true → n ≡ token_in pools leg) →
        (held n - cond b leg.input 0) + cond c leg.output 0 ≡ ((less n - cond b leg.input 0) + cond c leg.output 0) + more n
    by_token n true c says =
        let enough : leg.input ≤ less n = subst (λ (t : Name). leg.input ≤ less t) (sym (says refl)) legal.0.within in
        let all = split n in
        omega arith
    by_token n false c says = let all = split n in omega arith
