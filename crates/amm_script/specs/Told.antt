-- What is said of the answer by which a step is told.
use Rattle.std.specs.Prelude.{Result, Ok, Err}
use Rattle.amm_model.specs.declared.fault.Fault.{Fault}
use Rattle.amm_model.specs.declared.fault.Fault.TheVariants as faults
use Rattle.amm_model.specs.declared.reply.Answer.{Answer}
use Rattle.amm_model.specs.declared.reply.Answer.TheVariants as answers

-- It holds of the answer of an accepted step, or of the code of a refused one. Where memory was
-- wanting nothing is told.
abbrev pub OfToldAnswer : Result Answer Fault → (Answer → Type 0) → Type 0
OfToldAnswer (Ok answer) holds = holds answer
OfToldAnswer (Err (faults.Refused why)) holds = holds (answers.Refused why)
OfToldAnswer (Err faults.Memory) holds = Unit {0}
