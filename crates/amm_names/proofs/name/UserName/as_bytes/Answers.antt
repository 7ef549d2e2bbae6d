use Rattle.amm_names.proofs.Ascii.{IsUtf8-user}
use Rattle.amm_names.proofs.name.UserName.as_bytes.Goals as goal

pub returns-clause-utf8 : goal.returns-clause-utf8
returns-clause-utf8 c = rw c.as_bytes.ensures (IsUtf8-user _ c.self.invariant)
