use Rattle.std.proofs.Common.{sym, ◌∙◌, ap, subst, ℕ}
use Rattle.std.specs.Prelude.{IsTrue}
use Rattle.amm_names.specs.Pools.{pool_fee, is_fee}
use Rattle.amm_names.proofs.Spelling.{parts_are_pool}
use Rattle.amm_names.proofs.name.pool.PoolName.fee.Goals as goal

pub returns-clause-value : goal.returns-clause-value
returns-clause-value c = sym c.self.invariant.1.1.1 ∙ ap pool_fee c.self.view_is

pub returns-clause-fee : goal.returns-clause-fee
returns-clause-fee c = subst (λ (fee : ℕ). IsTrue (is_fee fee)) c.self.invariant.1.1.1 (parts_are_pool _ c.self.invariant.0).at_a_fee
