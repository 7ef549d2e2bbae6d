-- A search among values.
use Rattle.std.specs.Prelude.{Result, Ok, Err}
use Rattle.amm_model.specs.declared.fault.Fault.{Fault}
use Rattle.amm_model.specs.declared.fault.Fault.TheVariants as faults

-- A call found what fits, or it wanted memory, or nothing fits.
abbrev pub Finds : {X : Type 0} → (X → Type 0) → Result X Fault → Type 0
Finds Fits (Ok x) = Fits x
Finds Fits (Err faults.Memory) = Unit {0}
Finds {X} Fits (Err (faults.Refused why)) = (x : X) → ¬ Fits x
