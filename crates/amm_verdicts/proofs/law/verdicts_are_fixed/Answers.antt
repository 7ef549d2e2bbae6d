use Rattle.amm_verdicts.proofs.Fixed.{counts_fixed, verdicts_fixed}
use Rattle.amm_verdicts.proofs.law.verdicts_are_fixed.Goals as goal

pub returns : goal.returns
returns c = record { verdicts = verdicts_fixed; counts = counts_fixed }
