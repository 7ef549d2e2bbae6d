use Rattle.std.proofs.lemmas.List.{get_or-replicate}
use Rattle.amm_dual.proofs.nexts.all_at.Goals as goal

pub returns-clause-each : goal.returns-clause-each
returns-clause-each c = λ i below. get_or-replicate 257 i c.args.next 0 below
