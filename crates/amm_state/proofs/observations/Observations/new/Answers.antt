use Rattle.amm_state.specs.Observations.{moments_from}
use Rattle.amm_state.proofs.observations.Observations.new.Goals as goal

pub invariant_of-result : goal.invariant_of-result
unfolding moments_from
invariant_of-result c = λ pool. rw (c.new.ensures.items, c.with_hasher.ensures.empty)
