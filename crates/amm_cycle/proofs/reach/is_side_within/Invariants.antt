use Rattle.std.proofs.Common.{◌<◌, ◌≤◌, ◌+◌, ◌-◌, ◌*◌, ◌^◌, ℕ, get_or}
use Rattle.amm_cycle.proofs.reach.is_side_within.Given as goal

abbrev pub invariant-loop-e : goal.invariant-loop-e
invariant-loop-e l = (k : ℕ) → k < l.e → get_or l.powers.amounts k 0 * ((1000 - l.fee) * l.rout) ≤ (2 ^ k + l.most) * (1000 * l.rin)
