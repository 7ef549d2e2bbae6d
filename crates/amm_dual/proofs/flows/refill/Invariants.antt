use Rattle.amm_dual.specs.Flows.{AreFlows, AreGifts}
use Rattle.amm_dual.proofs.flows.refill.Given as goal

abbrev pub invariant-loop-i : goal.invariant-loop-i
invariant-loop-i l = record {
  gifts : AreGifts l.running.problem l.i l.given;
}

abbrev pub invariant-loop-i-2 : goal.invariant-loop-i-2
invariant-loop-i-2 l = record {
  flows : AreFlows l.running.problem l.i l.given l.taken;
}
