use Rattle.amm_state.specs.Assets.{holdings_in, rows_in}
use Rattle.amm_state.proofs.assets.Assets.new.Goals as goal

pub returns : goal.returns
unfolding holdings_in rows_in
returns c = rw c.with_hasher.ensures.empty
