use Rattle.std.proofs.Common.{◌≡◌, ◌*◌, ◌^◌, ◌≤◌, take}
use Rattle.std.specs.Prelude.{sum_by}
use Rattle.amm_dual.proofs.running.total_of.Given as goal

abbrev pub invariant-loop-i : goal.invariant-loop-i
invariant-loop-i l = record {
  value_is : l.total ≡ sum_by (λ w. w) (take l.i l.worths);
  below : l.total ≤ l.i * 2 ^ 99;
}
