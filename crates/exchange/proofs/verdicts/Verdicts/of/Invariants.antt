use Rattle.std.proofs.Common.{◌≡◌, ◌≤◌, ◌+◌, List, length}
use Rattle.amm_model.specs.declared.reply.Reply.{Reply}
use Rattle.amm_model.specs.Runs.{output_of}
use Rattle.exchange.proofs.Counting.{Counts}
use Rattle.exchange.proofs.verdicts.Verdicts.of.Given as goal

abbrev pub invariant-loop-end : goal.invariant-loop-end
invariant-loop-end l = record {
  room : l.verdicts.accepted + l.verdicts.refused + length l.rest ≤ length l.replies;
  counts : (all : List Reply) → l.replies ≡ output_of all → Counts l.rest l.verdicts.accepted l.verdicts.refused all;
}

abbrev pub decreases-loop-end : goal.decreases-loop-end
decreases-loop-end l = length l.rest
