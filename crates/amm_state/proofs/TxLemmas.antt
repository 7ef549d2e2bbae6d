-- A step that is done as two.
use Rattle.std.proofs.Common.{◌≡◌, Result, Ok, Err, ap, ◌∙◌}
use Rattle.amm_model.specs.declared.fault.Fault.{Fault}
use Rattle.amm_model.specs.declared.fault.Fault.TheVariants as fault
use Rattle.amm_model.specs.Outcome.{◌>>=◌, Made, Outcome}
use Rattle.amm_state.specs.Tx.{TxView, Accepts, Meets}

-- an accepted call, and what goes on from it
pub meets_after : {A B : Type 0} (old mid new : TxView) (first : A) (outcome : Outcome A) (next : Made A → Outcome B) (answer : Result B Fault) → Accepts old mid first outcome
    → Meets mid new answer (next (record { ledger = mid.present; answer = first })) → Meets old new answer (outcome >>= next)
meets_after old mid new first outcome next (Ok b) accepted meets = record { gives = ap (λ o. o >>= next) accepted.gives ∙ meets.gives; opening = meets.opening ∙ accepted.opening; mark = meets.mark }
meets_after old mid new first outcome next (Err (fault.Refused why)) accepted meets = record { gives = ap (λ o. o >>= next) accepted.gives ∙ meets.gives; opening = meets.opening ∙ accepted.opening; mark = meets.mark }
meets_after old mid new first outcome next (Err fault.Memory) accepted meets = record { opening = meets.opening ∙ accepted.opening; mark = meets.mark }

-- the same, of another outcome that is equal
pub meets_same : {A : Type 0} (old new : TxView) (answer : Result A Fault) (outcome other : Outcome A) → other ≡ outcome → Meets old new answer outcome → Meets old new answer other
meets_same old new (Ok a) outcome other e meets = record { gives = e ∙ meets.gives; opening = meets.opening; mark = meets.mark }
meets_same old new (Err (fault.Refused why)) outcome other e meets = record { gives = e ∙ meets.gives; opening = meets.opening; mark = meets.mark }
meets_same old new (Err fault.Memory) outcome other e meets = meets
