-- What an operation on the ledger gives: the ledger afterwards with its answer, or the code that
-- refuses it; steps that may be refused; and what a call gives beside its definition.
use Rattle.std.specs.Prelude.{◌≡◌, Bool, Result, Ok, Err, if◌then◌else◌}
use Rattle.amm_model.specs.declared.fault.Refusal.{Refusal}
use Rattle.amm_model.specs.declared.fault.Fault.{Fault}
use Rattle.amm_model.specs.declared.fault.Fault.TheVariants as faults
use Rattle.amm_model.specs.Ledger.{Ledger}

-- the ledger after an operation, and its answer
pub record Made (A : Type 0) : Type 0 where
  pub ledger : Ledger
  pub answer : A

-- a ledger with an answer, or the code that refuses
abbrev pub Outcome : Type 0 → Type 0
Outcome A = Result (Made A) Refusal

-- the ledger, with nothing more to say
abbrev pub ledger_only : Ledger → Outcome (Unit {0})
ledger_only ledger = Ok (record { ledger = ledger; answer = tt })

-- what is to be done next with what was given, if something was
infixl 10 ◌>>=◌
abbrev pub ◌>>=◌ : {A B : Type 0} → Result A Refusal → (A → Result B Refusal) → Result B Refusal
(Ok x) >>= next = next x
(Err why) >>= next = Err why

-- the code where the test holds, and else nothing
abbrev pub refuse_if : Bool → Refusal → Result (Unit {0}) Refusal
refuse_if test why = if test then Err why else Ok tt

-- A call that failed so: by the code that its definition gives, or for want of memory.
abbrev pub Fails : {Y : Type 0} → Fault → Result Y Refusal → Type 0
Fails faults.Memory meant = Unit {0}
Fails (faults.Refused why) meant = meant ≡ Err why

-- A call gave, seen by view, what its definition gives, or the same code; or it wanted memory.
abbrev pub Gives : {X Y : Type 0} → (X → Y) → Result X Fault → Result Y Refusal → Type 0
Gives view (Ok x) meant = meant ≡ Ok (view x)
Gives view (Err why) meant = Fails why meant
