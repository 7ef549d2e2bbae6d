use Rattle.std.proofs.Common.{◌≡◌, true, None, rules}
use Rattle.amm_names.specs.Pools.{pool_token0, pool_token1}
use Rattle.amm_model.specs.Ledger.{is_listed, pair_of}
use Rattle.amm_model.specs.Sound.{IsSound}
use Rattle.amm_model.proofs.PairSound.{add_pair_sound}
use Rattle.amm_state.proofs.Meets.{on_ok}
use Rattle.ledger_tests.proofs.observations.create.Goals as goal

pub returns-clause-sound : goal.returns-clause-sound
returns-clause-sound c =
    let absent : pair_of c.args.tx.now.present.pairs c.args.pool.now ≡ None = search rules in
    let first : is_listed c.args.tx.now.present.tokens (pool_token0 c.args.pool.now) ≡ true = search rules in
    let second : is_listed c.args.tx.now.present.tokens (pool_token1 c.args.pool.now) ≡ true = search rules in
    on_ok IsSound _ _ _ _ c.add_pair.ensures (λ made is. add_pair_sound c.args.tx.now.present c.args.pool.now made is absent first second c.requires.sound)
