-- The statuses.
use Rattle.std.specs.Prelude.{ℕ}
use Rattle.amm_ffi.specs.declared.outcome.Unanswered.{Unanswered}
use Rattle.amm_ffi.specs.declared.outcome.Unanswered.TheVariants as why
use Rattle.amm_ffi.specs.declared.outcome.TheConstants.{MEMORY, BROKEN, FULL}

-- the status that tells why a line is not answered
abbrev pub status_of : Unanswered → ℕ
status_of why.Memory = MEMORY
status_of why.Broken = BROKEN
status_of why.Full = FULL
