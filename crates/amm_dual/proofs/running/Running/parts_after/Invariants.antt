use Rattle.std.proofs.Common.{◌≡◌, ◌*◌, ◌^◌, ◌≤◌, take}
use Rattle.std.specs.Prelude.{sum_by}
use Rattle.amm_model.specs.Bound.{part_value}
use Rattle.amm_dual.specs.Running.{after}
use Rattle.amm_dual.proofs.running.Running.parts_after.Given as goal

abbrev pub invariant-loop-i : goal.invariant-loop-i
invariant-loop-i l = record {
  value_is : l.value ≡ sum_by (part_value l.self-inside.problem.now.tokens (after l.self-inside.prices.items l.changes)) (take l.i l.self-inside.problem.now.parts);
  below : l.value ≤ l.i * 2 ^ 92;
}
