use Rattle.std.proofs.Common.{◌≡◌, ◌≤◌, ◌+◌, ◌-◌, length}
use Rattle.std.specs.Io.KnownBytes.{Consumes}
use Rattle.amm_io.proofs.whole.read_within.Given as goal

abbrev pub invariant-chunk : goal.invariant-chunk
invariant-chunk g l =
    Consumes (g.S.Source.left l.fn.source) (g.S.Source.left l.source) l.bytes.items
    × (length l.bytes.items ≤ l.limit)
    × (length l.chunk.items ≡ 65536)
    × (g.S.Source.faults l.fn.source ≤ g.S.Source.faults l.source)

abbrev pub decreases-chunk : goal.decreases-chunk
decreases-chunk g l = l.limit + 1 - length l.bytes.items
