use Rattle.std.proofs.Common.{refl}
use Rattle.amm_names.proofs.Padding.{IsPadded-put}
use Rattle.amm_names.proofs.name.text.Text.with.Goals as goal

pub invariant_of-result : goal.invariant_of-result
invariant_of-result g c = rw c.write_at.ensures (IsPadded-put g.row.N c.self.inside.len _ c.self.inside.bytes c.args.more.now c.self.invariant refl)
