use Rattle.amm_legs.proofs.Places.{read_replicate}
use Rattle.amm_legs.proofs.progress.no_amounts.Goals as goal

pub returns-clause-zero : goal.returns-clause-zero
returns-clause-zero c = λ j. read_replicate 521 j _
