use Rattle.amm_legs.proofs.Places.{read_replicate}
use Rattle.amm_legs.proofs.progress.no_marks.Goals as goal

pub returns-clause-unmarked : goal.returns-clause-unmarked
returns-clause-unmarked c = λ j. read_replicate 256 j _
