-- How a borrower's call ends.
use Rattle.std.specs.Prelude.{◌≡◌, Result, Ok, Err}
use Rattle.amm_model.specs.declared.fault.Fault.{Fault}
use Rattle.amm_model.specs.Ledger.{Ledger}
use Rattle.amm_model.specs.Outcome.{Outcome}
use Rattle.amm_state.specs.Tx.{mark_of}
use Rattle.amm_state.specs.declared.mark.Mark.{Mark}
use Rattle.amm_state.specs.declared.mark.Mark.TheVariants as mark

-- the fault in the mark, where it is set; else that of the answer; else clean
abbrev pub end_of : Mark → Result (Unit {0}) Fault → Mark
end_of (mark.Refused why) answer = mark.Refused why
end_of mark.NoMemory answer = mark.NoMemory
end_of mark.Clean (Ok done) = mark.Clean
end_of mark.Clean (Err fault) = mark_of fault

-- the end and the ledger left are those that the outcome gives, or memory was wanted
abbrev pub IsDone : Outcome (Unit {0}) → Ledger → Mark → Type 0
IsDone outcome left mark.Clean = outcome ≡ Ok (record { ledger = left; answer = tt })
IsDone outcome left (mark.Refused why) = outcome ≡ Err why
IsDone outcome left mark.NoMemory = Unit {0}
