use Rattle.std.proofs.Common.{length, ◌-◌, ◌≡◌, ◌≤◌, ◌<◌, take, decimal}
use Rattle.amm_command.proofs.plain.cursor.whole.Given as goal

abbrev pub invariant-loop-next : goal.invariant-loop-next
invariant-loop-next l = record {
  short : l.end ≤ length l.bytes;
  some : 0 < l.n;
  small : l.n ≤ 4503599627370499;
  digits : take l.end l.bytes ≡ decimal l.n;
}

abbrev pub decreases-loop-next : goal.decreases-loop-next
decreases-loop-next l = length l.bytes - l.end
