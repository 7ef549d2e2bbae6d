-- A trade in fine parts of a unit, against the worth of its pool.
use Rattle.std.proofs.Common.{◌≡◌, ℕ, ◌+◌, ◌-◌, ◌*◌, ◌/◌, ◌^◌, ◌<◌, ◌≤◌, Bool, true, false, cond, arith, subst, ap, ltb}
use Rattle.std.proofs.Math.Nat.{mul-le-mul, mul-le-mul_left, div-mul-le_self, div-le_of_le-mul, lt-mul-div-succ}
use Rattle.std.proofs.lemmas.Nat.{le-div}
use Rattle.std.proofs.lemmas.Bool.Decides.{nat_tests}
use Rattle.amm_model.specs.Root.{root_of}
use Rattle.amm_model.specs.Swap.{Admits}
use Rattle.amm_model.specs.Bound.{twice_mean, margin, worth_by_weight, worth_of}
use Rattle.amm_model.proofs.Root.{root-square_le, root-greatest}
use Rattle.amm_model.proofs.Swap.{one_way, admits_turned}
use Rattle.amm_bound.proofs.Covered.{worth_covers}

-- the root of a number 2^14 times as great
scaled_root : (n : ℕ) → 2 ^ 7 * root_of n ≤ root_of (2 ^ 14 * n)
scaled_root n = let square = root-square_le n in root-greatest (2 ^ 14 * n) (2 ^ 7 * root_of n) (omega arith)

scaled_mean : (a b : ℕ) → 2 ^ 14 * twice_mean a b ≤ twice_mean (2 ^ 14 * a) (2 ^ 14 * b)
scaled_mean a b =
    let ra : 2 ^ 7 * root_of (a * 2 ^ 30) ≤ root_of (2 ^ 14 * a * 2 ^ 30) = subst (λ (n : ℕ). 2 ^ 7 * root_of (a * 2 ^ 30) ≤ root_of n) (omega arith) (scaled_root (a * 2 ^ 30)) in
    let rb : 2 ^ 7 * root_of (b * 2 ^ 30) ≤ root_of (2 ^ 14 * b * 2 ^ 30) = subst (λ (n : ℕ). 2 ^ 7 * root_of (b * 2 ^ 30) ≤ root_of n) (omega arith) (scaled_root (b * 2 ^ 30)) in
    go (root_of (a * 2 ^ 30)) (root_of (b * 2 ^ 30)) (root_of (2 ^ 14 * a * 2 ^ 30)) (root_of (2 ^ 14 * b * 2 ^ 30)) ra rb
  where
    go : (x y u v : ℕ) → 2 ^ 7 * x ≤ u → 2 ^ 7 * y ≤ v → 2 ^ 14 * (x * y / 2 ^ 29) ≤ u * v / 2 ^ 29
    go x y u v hx hy =
        let both : (2 ^ 7 * x) * (2 ^ 7 * y) ≤ u * v = mul-le-mul hx hy in
        let floor = div-mul-le_self (x * y) (2 ^ 29) in
        le-div (2 ^ 14 * (x * y / 2 ^ 29)) (u * v) (2 ^ 29) (omega arith) (omega arith)

scaled_margin : (g a b : ℕ) → 0 < g → margin g (2 ^ 14 * a) (2 ^ 14 * b) ≤ 2 ^ 14 * (margin g a b + 1)
scaled_margin g a b pos = go (twice_mean a b) (twice_mean (2 ^ 14 * a) (2 ^ 14 * b)) (scaled_mean a b)
  where
    go : (t u : ℕ) → 2 ^ 14 * t ≤ u → (2 ^ 14 * a + 2 ^ 14 * b - u) / g ≤ 2 ^ 14 * ((a + b - t) / g + 1)
    go t u h =
        let above : a + b - t < g * ((a + b - t) / g + 1) = lt-mul-div-succ (a + b - t) pos in
        div-le_of_le-mul g (omega arith)

scaled_test : (x y : ℕ) → ltb (2 ^ 14 * x) (2 ^ 14 * y) ≡ ltb x y
scaled_test x y = grind (arith, nat_tests)

scaled_cases : (g x y u v : ℕ) → 0 < g →
    cond (ltb (2 ^ 14 * x) (2 ^ 14 * y)) (margin g (2 ^ 14 * x) (2 ^ 14 * y)) (cond (ltb (2 ^ 14 * u) (2 ^ 14 * v)) (margin g (2 ^ 14 * u) (2 ^ 14 * v)) 0)
    ≤ 2 ^ 14 * (cond (ltb x y) (margin g x y) (cond (ltb u v) (margin g u v) 0) + 1)
scaled_cases g x y u v pos = rw (scaled_test x y, scaled_test u v) (pick (ltb x y) (ltb u v))
  where
    pick : (b c : Bool) → cond b (margin g (2 ^ 14 * x) (2 ^ 14 * y)) (cond c (margin g (2 ^ 14 * u) (2 ^ 14 * v)) 0) ≤ 2 ^ 14 * (cond b (margin g x y) (cond c (margin g u v) 0) + 1)
    pick true c = scaled_margin g x y pos
    pick false true = scaled_margin g u v pos
    pick false false = omega arith

-- a pool with 2^14 times the reserves is worth as many times as much, but for rounding
scaled_worth : (fee r0 r1 q0 q1 : ℕ) → fee < 1000 → worth_of fee (2 ^ 14 * r0) (2 ^ 14 * r1) q0 q1 ≤ 2 ^ 14 * (worth_of fee r0 r1 q0 q1 + 1)
scaled_worth fee r0 r1 q0 q1 small = go (1000 - fee) (omega arith)
  where
    moved : (w q r : ℕ) → w * q * (2 ^ 14 * r) ≡ 2 ^ 14 * (w * q * r)
    moved w q r = omega arith

    go : (g : ℕ) → 0 < g → worth_by_weight g (2 ^ 14 * r0) (2 ^ 14 * r1) q0 q1 ≤ 2 ^ 14 * (worth_by_weight g r0 r1 q0 q1 + 1)
    go g pos = rw (moved 1000 q0 r0, moved g q1 r1, moved 1000 q1 r1, moved g q0 r0) (scaled_cases g (1000 * q0 * r0) (g * q1 * r1) (1000 * q1 * r1) (g * q0 * r0) pos)

-- what is paid is less than the reserve
paid_below : (g rin rout x y : ℕ) → 0 < rin → 0 < rout → y * (1000 * rin + g * x) ≤ g * x * rout → y < rout
paid_below g rin rout x y in_pos out_pos rule = omega (arith, over)
  where
    over : rout ≤ y → ⊥
    over h =
        let pos : 0 < rin * rout = mul-le-mul in_pos out_pos in
        let more : (1000 * rin + g * x) * rout ≤ (1000 * rin + g * x) * y = mul-le-mul_left (1000 * rin + g * x) h in
        omega arith

-- the rule admits what is paid
paid_admitted : (fee rin rout x y : ℕ) → fee < 1000 → y < rout → y * (1000 * rin + (1000 - fee) * x) ≤ (1000 - fee) * x * rout → Admits fee rin rout (rin + x) (rout - y) x 0
paid_admitted fee rin rout x y small within rule = one_way fee rin rout x y (omega arith) (go (1000 - fee) (rout - y) (omega arith) rule)
  where
    go : (g k : ℕ) → y + k ≡ rout → y * (1000 * rin + g * x) ≤ g * x * rout → 1000 * rin * rout ≤ (1000 * rin + g * x) * k
    go g k e h = let whole : (1000 * rin + g * x) * (y + k) ≡ (1000 * rin + g * x) * rout = ap (λ (n : ℕ). (1000 * rin + g * x) * n) e in omega arith

-- a trade of token 0 for token 1
pub first_for_second : (fee r0 r1 x y q0 q1 : ℕ) → fee < 1000 → 0 < r0 → 0 < r1 → y * (1000 * (2 ^ 14 * r0) + (1000 - fee) * x) ≤ (1000 - fee) * x * (2 ^ 14 * r1) →
    q1 * y ≤ q0 * x + 2 ^ 14 * (worth_of fee r0 r1 q0 q1 + 1)
first_for_second fee r0 r1 x y q0 q1 small pos0 pos1 rule =
    let within : y < 2 ^ 14 * r1 = paid_below (1000 - fee) (2 ^ 14 * r0) (2 ^ 14 * r1) x y (omega arith) (omega arith) rule in
    let admitted = paid_admitted fee (2 ^ 14 * r0) (2 ^ 14 * r1) x y small within rule in
    let b0 : 2 ^ 14 * r0 + x ≡ 2 ^ 14 * r0 - 0 + x = omega arith in
    let b1 : 2 ^ 14 * r1 - y ≡ 2 ^ 14 * r1 - y + 0 = omega arith in
    let covers = worth_covers fee q0 q1 (2 ^ 14 * r0) (2 ^ 14 * r1) x 0 0 y small (omega arith) within
    (subst (λ (n : ℕ). Admits fee (2 ^ 14 * r0) (2 ^ 14 * r1) n (2 ^ 14 * r1 - y + 0) x 0) b0 (subst (λ (n : ℕ). Admits fee (2 ^ 14 * r0) (2 ^ 14 * r1) (2 ^ 14 * r0 + x) n x 0) b1 admitted)) in
    let scaled = scaled_worth fee r0 r1 q0 q1 small in
    omega arith

-- and of token 1 for token 0
pub second_for_first : (fee r0 r1 x y q0 q1 : ℕ) → fee < 1000 → 0 < r0 → 0 < r1 → y * (1000 * (2 ^ 14 * r1) + (1000 - fee) * x) ≤ (1000 - fee) * x * (2 ^ 14 * r0) →
    q0 * y ≤ q1 * x + 2 ^ 14 * (worth_of fee r0 r1 q0 q1 + 1)
second_for_first fee r0 r1 x y q0 q1 small pos0 pos1 rule =
    let within : y < 2 ^ 14 * r0 = paid_below (1000 - fee) (2 ^ 14 * r1) (2 ^ 14 * r0) x y (omega arith) (omega arith) rule in
    let admitted = admits_turned fee (2 ^ 14 * r1) (2 ^ 14 * r0) _ _ x 0 (paid_admitted fee (2 ^ 14 * r1) (2 ^ 14 * r0) x y small within rule) in
    let b1 : 2 ^ 14 * r1 + x ≡ 2 ^ 14 * r1 - 0 + x = omega arith in
    let b0 : 2 ^ 14 * r0 - y ≡ 2 ^ 14 * r0 - y + 0 = omega arith in
    let covers = worth_covers fee q0 q1 (2 ^ 14 * r0) (2 ^ 14 * r1) 0 x y 0 small within (omega arith)
    (subst (λ (n : ℕ). Admits fee (2 ^ 14 * r0) (2 ^ 14 * r1) n (2 ^ 14 * r1 - 0 + x) 0 x) b0 (subst (λ (n : ℕ). Admits fee (2 ^ 14 * r0) (2 ^ 14 * r1) (2 ^ 14 * r0 - y) n 0 x) b1 admitted)) in
    let scaled = scaled_worth fee r0 r1 q0 q1 small in
    omega arith
