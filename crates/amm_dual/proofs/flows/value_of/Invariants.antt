use Rattle.std.proofs.Common.{◌≡◌, ◌≤◌, ◌*◌, ◌^◌, take}
use Rattle.amm_dual.specs.Flows.{value_in}
use Rattle.amm_dual.proofs.flows.value_of.Given as goal

abbrev pub invariant-loop-j : goal.invariant-loop-j
invariant-loop-j l = record {
  value_is : l.value ≡ value_in (take l.j l.running.prices) (take l.j l.amounts);
  below : l.value ≤ l.j * 2 ^ 113;
}
