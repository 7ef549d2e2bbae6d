use Rattle.std.proofs.Common.{sym, ◌∙◌, ap, subst, List, ℕ}
use Rattle.std.specs.Prelude.{IsTrue}
use Rattle.amm_names.specs.Names.{is_token_name}
use Rattle.amm_names.specs.Pools.{pool_token1}
use Rattle.amm_names.proofs.Spelling.{parts_are_pool}
use Rattle.amm_names.proofs.name.pool.PoolName.token1.Goals as goal

pub returns-clause-value : goal.returns-clause-value
returns-clause-value c = sym c.self.invariant.1.1.0 ∙ ap pool_token1 c.self.view_is

pub returns-clause-token : goal.returns-clause-token
returns-clause-token c = subst (λ (name : List ℕ). IsTrue (is_token_name name)) c.self.invariant.1.1.0 (parts_are_pool _ c.self.invariant.0).second
