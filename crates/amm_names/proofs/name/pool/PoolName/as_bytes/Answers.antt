use Rattle.std.proofs.Common.{sym, subst}
use Rattle.std.specs.Str.{IsUtf8}
use Rattle.amm_names.proofs.Spelling.{parts_are_pool, parts_spell}
use Rattle.amm_names.proofs.Ascii.{IsUtf8-spelling}
use Rattle.amm_names.proofs.name.pool.PoolName.as_bytes.Goals as goal

pub returns-clause-pool : goal.returns-clause-pool
returns-clause-pool c = rw (← c.self.view_is) c.self.invariant.0

pub returns-clause-utf8 : goal.returns-clause-utf8
returns-clause-utf8 c = rw c.as_bytes.ensures (subst IsUtf8 (sym (parts_spell _ c.self.invariant.0)) (IsUtf8-spelling _ _ _ (parts_are_pool _ c.self.invariant.0)))
