use Rattle.std.proofs.Common.{◌≡◌, ℕ, ◌<◌, ◌^◌, get_or, length}
use Rattle.amm_model.specs.Paths.{gives}
use Rattle.amm_model.specs.Values.{sixteenths}
use Rattle.amm_graph.specs.Hops.{hops_of}
use Rattle.amm_split.proofs.rows.row_of.Given as goal

abbrev pub invariant-loop-k : goal.invariant-loop-k
invariant-loop-k l = record {
  long : length l.amounts ≡ 17;
  given : (k : ℕ) → k < l.k → get_or l.amounts k 0 ≡ gives l.problem.pools (hops_of l.path) (sixteenths l.d k);
  below : (k : ℕ) → get_or l.amounts k 0 < 2 ^ 48;
}
