use Rattle.amm_names.proofs.Ascii.{IsUtf8-token}
use Rattle.amm_names.proofs.name.TokenName.as_bytes.Goals as goal

pub returns-clause-utf8 : goal.returns-clause-utf8
returns-clause-utf8 c = rw c.as_bytes.ensures (IsUtf8-token _ c.self.invariant)
