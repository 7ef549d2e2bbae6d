use Rattle.std.proofs.Common.{add-one, refl, append_assoc, map, length, ◌≤◌, arith}
use Rattle.std.proofs.lemmas.List.{take_all, append-nil}
use Rattle.amm_model.specs.declared.problem.Part.{Part}
use Rattle.amm_model.proofs.Problems.{tokens_of_pools-more}
use Rattle.amm_model.proofs.parts.tokens_named.Goals as goal

pub loop-pool-init : goal.loop-pool-init
loop-pool-init c =
    let all : length c.args.parts.now ≤ c.loop-part.part-index = omega arith in
    rw (c.loop-part.invariant, take_all c.loop-part.part-index c.args.parts.now all, append-nil (map (λ (part : Part). part.token) c.args.parts.now)) refl

pub loop-pool-preserved : goal.loop-pool-preserved
loop-pool-preserved c =
    let pool = c.pool-item.result in
    let more = tokens_of_pools-more c.args.pools.now c.loop-pool.pool-index pool c.loop-pool-test.true in
    rw (add-one, more, ← c.pool-item.is, c.in_ok-push-4.ensures.items, c.in_ok-push-3.ensures.items, c.token0.ensures.value, c.token1.ensures.value, c.loop-pool.invariant) (simp append_assoc)
