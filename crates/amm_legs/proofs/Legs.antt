-- Legs one by one: what one more leg changes.
use Rattle.std.proofs.Common.{◌≡◌, ◌≢◌, ℕ, ◌<◌, ◌≤◌, List, [], ◌∷◌, length, take, arith, zero, suc, refl, get_or}
use Rattle.std.specs.Prelude.{All, if◌then◌else◌}
use Rattle.amm_model.specs.declared.problem.ProblemPool.{ProblemPool}
use Rattle.amm_model.specs.declared.route.Leg.{Leg}
use Rattle.amm_model.specs.Routing.{no_pool, token0_of, token1_of}
use Rattle.amm_names.specs.Names.{Name}
use Rattle.amm_legs.specs.Progress.{IsPaid}
use Rattle.amm_model.specs.Legs.{Inventory, IsLeg, AreLegs, after_leg, after_legs, used_after, no_leg}

pub after_legs-more : (pools : List ProblemPool) (held : Inventory) (legs : List Leg) (i : ℕ) (y : Name) → i < length legs →
    after_legs pools held (take (suc i) legs) y ≡ after_leg pools (after_legs pools held (take i legs)) (get_or legs i no_leg) y
after_legs-more pools held [] i y below = absurd (omega arith)
after_legs-more pools held (leg ∷ legs) zero y below = refl
after_legs-more pools held (leg ∷ legs) (suc i) y below = after_legs-more pools (after_leg pools held leg) legs i y (omega arith)

-- a leg that may be taken after those before it
pub legs-more : (pools : List ProblemPool) (used : List ℕ) (held : Inventory) (legs : List Leg) (i : ℕ) → i < length legs →
    AreLegs pools used held (take i legs) → IsLeg pools (used_after used (take i legs)) (after_legs pools held (take i legs)) (get_or legs i no_leg) →
    AreLegs pools used held (take (suc i) legs)
legs-more pools used held [] i below legal next = absurd (omega arith)
legs-more pools used held (leg ∷ legs) zero below legal next = (next, tt)
legs-more pools used held (leg ∷ legs) (suc i) below legal next =
    (legal.0, legs-more pools (leg.pool ∷ used) (after_leg pools held leg) legs i (omega arith) legal.1 next)

pub leg_at : (pools : List ProblemPool) (used : List ℕ) (held : Inventory) (legs : List Leg) (i : ℕ) → i < length legs →
    AreLegs pools used held legs → IsLeg pools (used_after used (take i legs)) (after_legs pools held (take i legs)) (get_or legs i no_leg)
leg_at pools used held [] i below legal = absurd (omega arith)
leg_at pools used held (leg ∷ legs) zero below legal = legal.0
leg_at pools used held (leg ∷ legs) (suc i) below legal = leg_at pools (leg.pool ∷ used) (after_leg pools held leg) legs i (omega arith) legal.1

-- the used pools after one leg more
pub used_after-more : (used : List ℕ) (legs : List Leg) (i : ℕ) → i < length legs →
    used_after used (take (suc i) legs) ≡ (get_or legs i no_leg).pool ∷ used_after used (take i legs)
used_after-more used [] i below = absurd (omega arith)
used_after-more used (leg ∷ legs) zero below = refl
used_after-more used (leg ∷ legs) (suc i) below = used_after-more (leg.pool ∷ used) legs i (omega arith)

pub leg_of : (pools : List ProblemPool) (used : List ℕ) (held : Inventory) (leg : Leg) (pool : ProblemPool) →
    pool ≡ get_or pools leg.pool no_pool → leg.pool < length pools → All (λ (q : ℕ). q ≢ leg.pool) used → IsPaid pool leg →
    leg.input ≤ held (if leg.zero_in then (token0_of pool) else (token1_of pool)) → IsLeg pools used held leg
leg_of pools used held leg pool pool-is there unused paid within = record {
  there = there;
  admissible = (rw pool-is at paid).0;
  unused = unused;
  positive = paid.1;
  within = rw pool-is at within;
  room = (rw pool-is at paid).2;
  gives = paid.3;
  pays = (rw pool-is at paid).4;
}
