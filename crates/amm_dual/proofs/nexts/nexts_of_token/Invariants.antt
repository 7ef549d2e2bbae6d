use Rattle.std.proofs.Common.{◌-◌}
use Rattle.amm_dual.specs.Nexts.{AreNextsFrom, IsNext}
use Rattle.amm_dual.proofs.nexts.nexts_of_token.Given as goal

abbrev pub invariant-loop-k : goal.invariant-loop-k
invariant-loop-k l = record {
  next : IsNext l.places l.token (l.count - l.k) l.next;
  list : AreNextsFrom l.places l.token (l.count - l.k) l.list;
}
