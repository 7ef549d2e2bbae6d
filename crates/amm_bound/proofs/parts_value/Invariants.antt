use Rattle.std.proofs.Common.{◌≡◌, ◌*◌, ◌^◌, ◌≤◌, take}
use Rattle.std.specs.Prelude.{sum_by}
use Rattle.amm_model.specs.Bound.{part_value}
use Rattle.amm_bound.proofs.parts_value.Given as goal

-- the value so far is that of the parts passed
abbrev pub invariant-loop-i : goal.invariant-loop-i
invariant-loop-i l = record {
  value_is : l.value ≡ sum_by (part_value l.problem.tokens l.prices) (take l.i l.problem.parts);
  below : l.value ≤ l.i * 2 ^ 92;
}
