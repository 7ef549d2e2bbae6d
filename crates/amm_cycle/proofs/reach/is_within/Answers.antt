use Rattle.std.proofs.Common.{◌≡◌, ◌+◌, ◌^◌, get_or}
use Rattle.std.proofs.lemmas.List.{get_or_read}
use Rattle.amm_model.specs.Paths.{hop_pool}
use Rattle.amm_model.specs.Routing.{no_pool}
use Rattle.amm_cycle.proofs.Ceilings.{one_side-le, zero_side-le}
use Rattle.amm_cycle.proofs.reach.is_within.Goals as goal

pub returns-then-hop : goal.returns-then-hop
returns-then-hop c sure e below =
    let pools = c.args.problem.now.pools in
    let same : c.index-pools-hop.result ≡ hop_pool pools c.args.hop = get_or_read pools _ _ c.requires.there (rw c.pools-pools.ensures.list at c.index-pools-hop.is) no_pool in
    zero_side-le pools c.args.hop c.index-pools-hop.result c.fee-fee.result (get_or c.args.powers.now.amounts e 0) (2 ^ e + c.args.most)
    c.if-hop.true same c.fee-fee.ensures.value (c.is_side_within.ensures sure e below)

pub returns-else-hop : goal.returns-else-hop
returns-else-hop c sure e below =
    let pools = c.args.problem.now.pools in
    let same : c.index-pools-hop.result ≡ hop_pool pools c.args.hop = get_or_read pools _ _ c.requires.there (rw c.pools-pools.ensures.list at c.index-pools-hop.is) no_pool in
    one_side-le pools c.args.hop c.index-pools-hop.result c.fee-fee.result (get_or c.args.powers.now.amounts e 0) (2 ^ e + c.args.most)
    c.if-hop.false same c.fee-fee.ensures.value (c.is_side_within-else-hop.ensures sure e below)
