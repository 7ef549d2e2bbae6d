use Rattle.std.proofs.Common.{◌+◌, ◌*◌, ◌^◌, ◌<◌, ◌≤◌}
use Rattle.amm_num.proofs.root_by_bits.Given as goal

abbrev pub invariant-loop-place : goal.invariant-loop-place
invariant-loop-place l = record {
  bits : l.place ≤ 64;
  room : l.low + 2 ^ l.place ≤ 2 ^ 64;
  square_le : l.low * l.low ≤ l.n;
  next_square_gt : l.n < (l.low + 2 ^ l.place) * (l.low + 2 ^ l.place);
}

abbrev pub decreases-loop-place : goal.decreases-loop-place
decreases-loop-place l = l.place
