use Rattle.std.proofs.Common.{◌≢◌, ◌<◌, ◌≤◌, ◌^◌, ℕ, get_or}
use Rattle.amm_model.specs.declared.problem.Part.{Part}
use Rattle.amm_model.proofs.parts.are_given.Given as goal

abbrev pub invariant-loop-part : goal.invariant-loop-part
invariant-loop-part l = (k : ℕ) (d : Part) → k < l.part-index → ((get_or l.parts k d).token ≢ l.t) × ((1 ≤ (get_or l.parts k d).amount) × ((get_or l.parts k d).amount < 2 ^ 52))
