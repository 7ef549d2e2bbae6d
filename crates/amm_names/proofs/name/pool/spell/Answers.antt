use Rattle.std.proofs.Common.{rules, arith, ◌≡◌}
use Rattle.std.proofs.lemmas.Grind.{common_steps}
use Rattle.amm_names.specs.Pools.{pool_spelling}
use Rattle.amm_names.proofs.Spelling.{IsPool, token0_of_spelling, token1_of_spelling, fee_of_spelling, spelling_names_pool}
use Rattle.amm_names.proofs.name.pool.spell.Goals as goal

pub invariant_of-result : goal.invariant_of-result
invariant_of-result c =
    let parts : IsPool c.args.token0 c.args.token1 c.args.fee = search rules in
    let spelled : c.with_fee.result ≡ pool_spelling c.args.token0 c.args.token1 c.args.fee = grind (arith, common_steps) in
    rw spelled (
      spelling_names_pool c.args.token0 c.args.token1 c.args.fee parts,
      (
        token0_of_spelling c.args.token0 c.args.token1 c.args.fee parts,
        (token1_of_spelling c.args.token0 c.args.token1 c.args.fee parts, fee_of_spelling c.args.token0 c.args.token1 c.args.fee parts),
      ),
    )
