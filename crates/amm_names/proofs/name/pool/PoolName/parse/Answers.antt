use Rattle.std.proofs.Common.{arith, rules, refl, ◌≡◌}
use Rattle.std.proofs.lemmas.Grind.{common_steps}
use Rattle.amm_names.specs.Pools.{pool_spelling}
use Rattle.amm_names.proofs.Spelling.{IsPool}
use Rattle.amm_names.proofs.Parsing.{no_fee, is_name}
use Rattle.amm_names.proofs.name.pool.PoolName.parse.Goals as goal

pub returns-in_err-second : goal.returns-in_err-second
returns-in_err-second c =
    rw (c.from_residual-in_err-second.ensures, no_fee c.args.bytes.now _ c.in_ok-first.ensures.after c.in_err-second.ensures.none) refl

pub returns : goal.returns
returns c =
    let parts : IsPool c.in_ok-token0.token0 c.in_ok-token1.token1 c.in_ok-second.fee = search rules in
    let spelled : c.args.bytes.now ≡ pool_spelling c.in_ok-token0.token0 c.in_ok-token1.token1 c.in_ok-second.fee = grind (arith, common_steps) in
    rw (c.spell.ensures, is_name c.args.bytes.now _ _ _ parts spelled, spelled) refl
