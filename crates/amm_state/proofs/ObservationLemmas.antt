-- The moments of a pool: after one more observation and one fewer, and the search by time.
use Rattle.std.proofs.Common.{◌≡◌, ℕ, zero, suc, ◌+◌, ◌-◌, ◌<◌, ◌≤◌, nat_le, Bool, true, false, ◌&&◌, List, [], ◌∷◌, ◌++◌, length, get_or, take, Option, None, Some, refl, sym, ap, ◌∙◌, inl, inr, arith, add-zero, length-append}
use Rattle.std.specs.Prelude.{All, AllPairs, if◌then◌else◌}
use Rattle.std.specs.List.Sorted.{IsNonDecreasingBy}
use Rattle.std.specs.Option.{option_or, option_map}
use Rattle.std.proofs.lemmas.Bool.{cases_lt}
use Rattle.std.proofs.lemmas.List.Elements.{All-cons, All-nil, All-tail}
use Rattle.std.proofs.lemmas.List.Kept.{AllPairs-cons}
use Rattle.std.proofs.Math.Seq.{take-append_seam}
use Rattle.amm_names.specs.Names.{Name}
use Rattle.amm_model.specs.declared.observation.Observation.{Observation}
use Rattle.amm_model.specs.Observations.{is_before}
use Rattle.amm_model.specs.Oracle.{last_from}
use Rattle.amm_model.specs.Pools.{same_name}
use Rattle.amm_state.specs.declared.observations.Moment.{Moment}
use Rattle.amm_state.specs.Observations.{moments_from, moments_of, AreFiled, last_by}

abbrev pub Rows : Type 0
Rows = List (Name × List Moment)

abbrev moment_of : Observation → ℕ → Moment
moment_of o number = record { time = o.time; number = number }

-- ---- one more, and one fewer

-- the moments of a pool, with one more observation
pub moments_from-append : (n : ℕ) (pool : Name) (os : List Observation) (o : Observation) (k : ℕ) → k ≡ n + length os
    → moments_from n pool (os ++ o ∷ []) ≡ (if same_name pool o.pool then moments_from n pool os ++ moment_of o k ∷ [] else moments_from n pool os)
unfolding moments_from
moments_from-append n pool [] o k is =
    let first : n ≡ k = omega arith in
    ap (λ (j : ℕ). if same_name pool o.pool then moment_of o j ∷ [] else []) first
moments_from-append n pool (p ∷ os) o k is =
    let rest = moments_from-append (suc n) pool os o k (omega arith) in
    elim (same_name pool p.pool) as (λ b. (if b then moment_of p n ∷ moments_from (suc n) pool (os ++ o ∷ []) else moments_from (suc n) pool (os ++ o ∷ []))
    ≡ (if same_name pool o.pool then (if b then moment_of p n ∷ moments_from (suc n) pool os else moments_from (suc n) pool os) ++ moment_of o k ∷ [] else (if b then moment_of p n ∷ moments_from (suc n) pool os else moments_from (suc n) pool os))) [
      | true ↦ ap (λ (ms : List Moment). moment_of p n ∷ ms) rest ∙ cons_into (moment_of p n) (same_name pool o.pool) _ _
      | false ↦ rest
    ]
  where
    cons_into : (m : Moment) (b : Bool) (xs ys : List Moment) → m ∷ (if b then xs else ys) ≡ (if b then m ∷ xs else m ∷ ys)
    cons_into m true xs ys = refl
    cons_into m false xs ys = refl

abbrev pub without_last : List Moment → List Moment
without_last ms = take (length ms - 1) ms

without_last-append : (ms : List Moment) (m : Moment) → without_last (ms ++ m ∷ []) ≡ ms
without_last-append ms m =
    let few : length (ms ++ m ∷ []) - 1 ≡ length ms = omega (arith, length-append ms (m ∷ [])) in
    ap (λ (n : ℕ). take n (ms ++ m ∷ [])) few ∙ take-append_seam ms (m ∷ [])

-- the rows tell one more observation, once its moment is noted
pub filed_more : (old new : Rows) (kept : List Observation) (o : Observation) (k : ℕ) → k ≡ length kept + 1 → AreFiled old kept
    → ((q : Name) → moments_of new q ≡ (if same_name q o.pool then moments_of old q ++ moment_of o k ∷ [] else moments_of old q)) → AreFiled new (kept ++ o ∷ [])
filed_more old new kept o k is filed noted q =
    noted q ∙ ap (λ (ms : List Moment). if same_name q o.pool then ms ++ moment_of o k ∷ [] else ms) (filed q) ∙ sym (moments_from-append 1 q kept o k (omega arith))

-- and one fewer, once its moment is struck out
pub filed_fewer : (old new : Rows) (kept : List Observation) (o : Observation) → AreFiled old (kept ++ o ∷ [])
    → ((q : Name) → moments_of new q ≡ (if same_name q o.pool then without_last (moments_of old q) else moments_of old q)) → AreFiled new kept
filed_fewer old new kept o filed struck q =
    struck q ∙ ap (λ (ms : List Moment). if same_name q o.pool then without_last ms else ms) (filed q ∙ moments_from-append 1 q kept o (1 + length kept) refl) ∙ at (same_name q o.pool)
  where
    at : (b : Bool) → (if b then without_last (if b then moments_from 1 q kept ++ moment_of o (1 + length kept) ∷ [] else moments_from 1 q kept) else (if b then moments_from 1 q kept ++ moment_of o (1 + length kept) ∷ [] else moments_from 1 q kept)) ≡ moments_from 1 q kept
    at true = without_last-append (moments_from 1 q kept) (moment_of o (1 + length kept))
    at false = refl

-- ---- the moments are in the order of their times

moments_all : (P : ℕ → Type 0) (n : ℕ) (pool : Name) (os : List Observation) → All (λ (o : Observation). P o.time) os → All (λ (m : Moment). P m.time) (moments_from n pool os)
unfolding moments_from
moments_all P n pool [] all = All-nil (λ (m : Moment). P m.time)
moments_all P n pool (o ∷ os) all =
    let rest = moments_all P (suc n) pool os (All-tail (λ (p : Observation). P p.time) o os all) in
    let first : P o.time = all 0 o (omega arith) in
    elim (same_name pool o.pool) as (λ b. All (λ (m : Moment). P m.time) (if b then moment_of o n ∷ moments_from (suc n) pool os else moments_from (suc n) pool os)) [
      | true ↦ All-cons (λ (m : Moment). P m.time) (moment_of o n) _ first rest
      | false ↦ rest
    ]

moments_in_order : (n : ℕ) (pool : Name) (os : List Observation) → AllPairs (λ (a b : Observation). a.time ≤ b.time) os → AllPairs (λ (a b : Moment). a.time ≤ b.time) (moments_from n pool os)
unfolding moments_from
moments_in_order n pool [] up = λ i j d before short. absurd (omega arith)
moments_in_order n pool (o ∷ os) up =
    let rest = moments_in_order (suc n) pool os (λ i j d before short. up (suc i) (suc j) d (omega arith) (omega arith)) in
    let later : All (λ (p : Observation). o.time ≤ p.time) os = λ k d short. up 0 (suc k) d (omega arith) (omega arith) in
    elim (same_name pool o.pool) as (λ b. AllPairs (λ (a c : Moment). a.time ≤ c.time) (if b then moment_of o n ∷ moments_from (suc n) pool os else moments_from (suc n) pool os)) [
      | true ↦ AllPairs-cons (λ (a c : Moment). a.time ≤ c.time) (moment_of o n) _ (moments_all (λ t. o.time ≤ t) (suc n) pool os later) rest
      | false ↦ rest
    ]

pub moments_rise : (n : ℕ) (pool : Name) (os : List Observation) → AllPairs (λ (a b : Observation). a.time ≤ b.time) os → IsNonDecreasingBy (λ (m : Moment). m.time) (moments_from n pool os)
moments_rise n pool os up i j d le short = elim (cases_lt i j) [
  | inl lt ↦ moments_in_order n pool os up i j d lt short
  | inr ge ↦ (let is : i ≡ j = omega arith in omega (arith, ap (λ (k : ℕ). (get_or (moments_from n pool os) k d).time) is))
]

-- ---- the last by a time

-- whether a first observation is of the pool, and in time, and what is found later
found_first : (same in_time : Bool) (n : ℕ) (o : Observation) (later : Option (ℕ × Observation)) (rest : Option ℕ) → rest ≡ option_map (λ found. found.0) later
    → (if same then option_or rest (if in_time then Some n else None) else rest) ≡ option_map (λ found. found.0) (option_or later (if same && in_time then Some (n, o) else None))
found_first same in_time n o later rest is = ap (λ (r : Option ℕ). if same then option_or r (if in_time then Some n else None) else r) is ∙ at same in_time later
  where
    at : (b c : Bool) (f : Option (ℕ × Observation)) → (if b then option_or (option_map (λ found. found.0) f) (if c then Some n else None) else option_map (λ found. found.0) f)
        ≡ option_map (λ found. found.0) (option_or f (if b && c then Some (n, o) else None))
    at true true None = refl
    at true true (Some f) = refl
    at true false None = refl
    at true false (Some f) = refl
    at false c None = refl
    at false c (Some f) = refl

-- the moments of a pool tell the last observation by a time
pub last_by-moments : (n : ℕ) (pool : Name) (latest : ℕ) (os : List Observation) → last_by latest (moments_from n pool os) ≡ option_map (λ found. found.0) (last_from n (is_before pool 0 latest) os)
unfolding moments_from last_by last_from
last_by-moments n pool latest [] = refl
last_by-moments n pool latest (o ∷ os) =
    rw (add-zero o.time) (elim (same_name pool o.pool) as (λ b. last_by latest (if b then moment_of o n ∷ moments_from (suc n) pool os else moments_from (suc n) pool os)
    ≡ option_map (λ found. found.0) (option_or (last_from (suc n) (is_before pool 0 latest) os) (if b && nat_le o.time latest then Some (n, o) else None))) [
      | true ↦ found_first true (nat_le o.time latest) n o _ _ (last_by-moments (suc n) pool latest os)
      | false ↦ found_first false (nat_le o.time latest) n o _ _ (last_by-moments (suc n) pool latest os)
    ])

pub last_by-nothing : (latest : ℕ) → last_by latest [] ≡ None
unfolding last_by
last_by-nothing latest = refl

-- none of the moments is in time
pub last_by-none : (latest : ℕ) (ms : List Moment) (d : Moment) → ((k : ℕ) → k < length ms → nat_le (get_or ms k d).time latest ≡ false) → last_by latest ms ≡ None
unfolding last_by
last_by-none latest [] d late = refl
last_by-none latest (m ∷ ms) d late =
    let first : nat_le m.time latest ≡ false = late 0 (omega arith) in
    let rest = last_by-none latest ms d (λ k short. late (suc k) (omega arith)) in
    rw (rest, first) refl

-- this moment is in time, and none later is
pub last_by-at : (latest : ℕ) (ms : List Moment) (place : ℕ) (d : Moment) → place < length ms → nat_le (get_or ms place d).time latest ≡ true
    → ((k : ℕ) → place < k → k < length ms → nat_le (get_or ms k d).time latest ≡ false) → last_by latest ms ≡ Some (get_or ms place d).number
unfolding last_by
last_by-at latest [] place d short in_time late = absurd (omega arith)
last_by-at latest (m ∷ ms) zero d short in_time late =
    let rest = last_by-none latest ms d (λ k below. late (suc k) (omega arith) (omega arith)) in
    rw (rest, in_time) refl
last_by-at latest (m ∷ ms) (suc place) d short in_time late =
    let rest = last_by-at latest ms place d (omega arith) in_time (λ k after below. late (suc k) (omega arith) (omega arith)) in
    rw rest refl
