-- What a leg pays keeps the rule of a swap, however much the pool has above its reserves.
use Rattle.std.proofs.Common.{◌≡◌, ℕ, ◌+◌, ◌-◌, ◌*◌, ◌<◌, ◌≤◌, ap, arith}
use Rattle.std.proofs.Math.Nat.{mul-le-mul}
use Rattle.amm_model.specs.Swap.{Admits, amount_out_of}
use Rattle.amm_model.proofs.Swap.{admits_le, le_admits, greatest_output}

-- what more lies on a side counts for more, whatever the fee takes of it
side_more : (fee r x s : ℕ) → fee ≤ 1000 → 1000 * (r + x) - fee * x ≤ 1000 * ((r + s) + x) - fee * (s + x)
side_more fee r x s small = go (1000 - fee) (omega arith)
  where
    go : (g : ℕ) → fee + g ≡ 1000 → 1000 * (r + x) - fee * x ≤ 1000 * ((r + s) + x) - fee * (s + x)
    go g whole =
        let one : (fee + g) * x ≡ 1000 * x = ap (λ (n : ℕ). n * x) whole in
        let two : (fee + g) * s ≡ 1000 * s = ap (λ (n : ℕ). n * s) whole in
        omega arith

-- s0 and s1 lie above the reserves, x comes in on the one side, and k is what stays of the other
pub rule_kept : (fee rin rout x k s0 s1 : ℕ) → fee ≤ 1000 → 0 < rin → 0 < rout → k ≡ rout - amount_out_of fee x rin rout
    → Admits fee rin rout ((rin + s0) + x) (k + s1) (s0 + x) s1
rule_kept fee rin rout x k s0 s1 small rin-pos rout-pos left =
    let rule : 1000000 * rin * rout ≤ (1000 * (rin + x) - fee * x) * (1000 * (rout - amount_out_of fee x rin rout) - fee * 0) =
    admits_le fee rin rout (rin + x) (rout - amount_out_of fee x rin rout) x 0 (greatest_output fee x rin rout small rin-pos rout-pos).0 in
    let inside : 1000 * (rin + x) - fee * x ≤ 1000 * ((rin + s0) + x) - fee * (s0 + x) = side_more fee rin x s0 small in
    let outside : 1000 * (rout - amount_out_of fee x rin rout) - fee * 0 ≤ 1000 * (k + s1) - fee * s1 = other_side fee k s1 (rout - amount_out_of fee x rin rout) small left in
    le_admits fee rin rout ((rin + s0) + x) (k + s1) (s0 + x) s1
    (omega (arith, rule, mul-le-mul inside outside))
  where
    other_side : (fee k s z : ℕ) → fee ≤ 1000 → k ≡ z → 1000 * z - fee * 0 ≤ 1000 * (k + s) - fee * s
    other_side fee k s z small left = go (1000 - fee) (omega arith)
      where
        go : (g : ℕ) → fee + g ≡ 1000 → 1000 * z - fee * 0 ≤ 1000 * (k + s) - fee * s
        go g whole = let two : (fee + g) * s ≡ 1000 * s = ap (λ (n : ℕ). n * s) whole in omega arith
