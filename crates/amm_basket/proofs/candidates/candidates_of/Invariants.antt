use Rattle.std.proofs.Common.{◌≡◌, ◌<◌, ◌⊎◌, ℕ, drop, get_or}
use Rattle.amm_model.specs.Baskets.{IsValueOfPart}
use Rattle.amm_model.specs.Legs.{Delivers}
use Rattle.amm_model.specs.Values.{AtLeastTheWays}
use Rattle.amm_basket.specs.Candidates.{no_part}
use Rattle.amm_basket.proofs.InTurn.{Selling}
use Rattle.amm_basket.proofs.candidates.candidates_of.Given as goal

abbrev pub invariant-loop-i : goal.invariant-loop-i
invariant-loop-i l = record {
  alone : Delivers l.problem l.alone.legs l.alone.amount;
  value : (l.alone.amount ≡ 0) ⊎ IsValueOfPart l.problem l.alone.amount;
  most : (k : ℕ) → k < l.i → AtLeastTheWays l.problem.pools (get_or l.problem.parts k no_part).token l.problem.t (get_or l.problem.parts k no_part).amount l.alone.amount;
  selling : Selling l.problem (drop l.i l.problem.parts) l.used.items l.whole.items;
}
