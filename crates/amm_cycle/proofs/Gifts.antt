-- What one hop more gives, and its leg.
use Rattle.std.proofs.Common.{◌≡◌, ℕ, inl, inr, sym, subst, set, ◌+◌, ◌-◌, ◌<◌, ◌≤◌, ◌^◌, ◌∙◌, List, [], ◌∷◌, ◌++◌, length, take, ap, refl, get_or, arith}
use Rattle.std.proofs.lemmas.Bool.{cases_lt}
use Rattle.std.proofs.lemmas.List.{take_more, get_or-set_other, get_or-set_same}
use Rattle.amm_model.specs.declared.problem.ProblemPool.{ProblemPool}
use Rattle.amm_model.specs.declared.route.Hop.{Hop}
use Rattle.amm_model.specs.declared.route.Leg.{Leg}
use Rattle.amm_model.specs.Paths.{hop_gives, gives, leg_of_hop, legs_along}
use Rattle.amm_names.specs.Names.{Name}
use Rattle.amm_model.specs.Cycles.{IsCycleValue, profit}
use Rattle.amm_cycle.specs.Chains.{AreGiven, IsFound, IsStanding, StandsOnPower, hops_of}
use Rattle.amm_cycle.specs.declared.found.Found.{Found}

pub gives-append : (pools : List ProblemPool) (xs ys : List Hop) (x : ℕ) → gives pools (xs ++ ys) x ≡ gives pools ys (gives pools xs x)
gives-append pools [] ys x = refl
gives-append pools (hop ∷ xs) ys x = gives-append pools xs ys (hop_gives pools hop x)

pub gives-more : (pools : List ProblemPool) (hops : List Hop) (k : ℕ) (d : Hop) (x : ℕ) → k < length hops →
    gives pools (take (k + 1) hops) x ≡ hop_gives pools (get_or hops k d) (gives pools (take k hops) x)
gives-more pools hops k d x below = ap (λ (l : List Hop). gives pools l x) (take_more hops k d below) ∙ gives-append pools (take k hops) (get_or hops k d ∷ []) x

legs-append : (pools : List ProblemPool) (xs ys : List Hop) (x : ℕ) → legs_along pools (xs ++ ys) x ≡ legs_along pools xs x ++ legs_along pools ys (gives pools xs x)
legs-append pools [] ys x = refl
legs-append pools (hop ∷ xs) ys x = ap (λ (ls : List Leg). leg_of_hop pools hop x ∷ ls) (legs-append pools xs ys (hop_gives pools hop x))

pub legs-more : (pools : List ProblemPool) (hops : List Hop) (k : ℕ) (d : Hop) (x : ℕ) → k < length hops →
    legs_along pools (take (k + 1) hops) x ≡ legs_along pools (take k hops) x ++ leg_of_hop pools (get_or hops k d) (gives pools (take k hops) x) ∷ []
legs-more pools hops k d x below = ap (λ (l : List Hop). legs_along pools l x) (take_more hops k d below) ∙ legs-append pools (take k hops) (get_or hops k d ∷ []) x

-- a table of what hops give, with one hop more
pub given-more : (pools : List ProblemPool) (begun longer : List Hop) (hop : Hop) (amounts more : List ℕ) → AreGiven pools begun amounts → longer ≡ begun ++ hop ∷ [] → length more ≡ 52 →
    ((e : ℕ) → e < 52 → get_or more e 0 ≡ hop_gives pools hop (get_or amounts e 0)) → ((e : ℕ) → e < 52 → get_or more e 0 < 2 ^ 52) → AreGiven pools longer more
given-more pools begun longer hop amounts more given is long each below = record {
  long = long;
  each = λ e small. each e small ∙ ap (hop_gives pools hop) (given.each e small) ∙ (rw is (rw (gives-append pools begun (hop ∷ []) (2 ^ e)) refl));
  below = below;
}

-- hops that gain something on a power of two
pub on_power : (pools : List ProblemPool) (hops : List Hop) (amounts : List ℕ) (x gain : ℕ) → AreGiven pools hops amounts → 1 ≤ gain →
    ((e : ℕ) × (e < 52) × (x ≡ 2 ^ e) × (gain ≡ get_or amounts e 0 - 2 ^ e)) → StandsOnPower pools hops
on_power pools hops amounts x gain given some (e, small, is, gained) = (e, omega arith, (let gives = given.each e small in omega arith))

-- what holds of the first numbers of a table holds of one more
pub set_more : (P : ℕ → ℕ → Type 0) (xs : List ℕ) (i y : ℕ) → i < length xs → ((k : ℕ) → k < i → P k (get_or xs k 0)) → P i y → (k : ℕ) → k < i + 1 → P k (get_or (set xs i y) k 0)
set_more P xs i y inside earlier here k below = elim (cases_lt k i) [
  | inl lt ↦ subst (λ (n : ℕ). P k n) (sym (get_or-set_other xs i k y 0 (λ e. omega (arith, e, lt)))) (earlier k lt)
  | inr ge ↦ (let same : k ≡ i = omega arith in subst (λ (j : ℕ). P j (get_or (set xs i y) j 0)) (sym same) (subst (λ (n : ℕ). P i n) (sym (get_or-set_same xs i y 0 inside)) here))
]

-- the legs of one hop more
pub legs_pushed : (pools : List ProblemPool) (hops : List Hop) (k : ℕ) (d : Hop) (x input output : ℕ) (legs longer : List Leg) → k < length hops →
    longer ≡ legs ++ (let leg : Leg = record { pool = (get_or hops k d).pool; zero_in = (get_or hops k d).zero_in; input = input; output = output } in leg) ∷ [] →
    output ≡ hop_gives pools (get_or hops k d) input → input ≡ gives pools (take k hops) x → legs ≡ legs_along pools (take k hops) x → longer ≡ legs_along pools (take (k + 1) hops) x
legs_pushed pools hops k d x input output legs longer below pushed out in_is legs_are =
    pushed ∙ ap (λ (w : ℕ). legs ++ (let leg : Leg = record { pool = (get_or hops k d).pool; zero_in = (get_or hops k d).zero_in; input = input; output = w } in leg) ∷ []) out
    ∙ ap (λ (n : ℕ). legs ++ leg_of_hop pools (get_or hops k d) n ∷ []) in_is
    ∙ ap (λ (ls : List Leg). ls ++ leg_of_hop pools (get_or hops k d) (gives pools (take k hops) x) ∷ []) legs_are
    ∙ sym (legs-more pools hops k d x below)

-- a cycle that was found stands, where it has a profit
pub is_standing : (pools : List ProblemPool) (t : Name) (found : Found) → IsFound pools t found → (found.profit ≡ 0 → ⊥) → IsStanding pools t found
is_standing pools t found (inl none) some = absurd (some none)
is_standing pools t found (inr is) some = is

-- and has a value
pub standing_value : (pools : List ProblemPool) (t : Name) (found : Found) → IsStanding pools t found → (value : ℕ) × IsCycleValue pools t value
standing_value pools t found is =
    let power = is.power in
    (profit pools (hops_of found.chain) (2 ^ power.0), record { hops = hops_of found.chain; e = power.0; is_cycle = is.cycle; size = power.1; stands = power.2; given = refl })
