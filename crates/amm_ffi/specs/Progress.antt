-- How far a session has come, and what one line does to it.
use Rattle.std.specs.Prelude.{◌≡◌, ◌+◌, ◌-◌, ◌^◌, ◌++◌, ℕ, List, [], length, take, drop, nat_le, if◌then◌else◌, refl}
use Rattle.std.specs.Coded.{Coded, code_by, coded×, coded_ℕ, coded_list}
use Rattle.amm_model.specs.Ledger.{Ledger, opening_ledger}
use Rattle.amm_model.specs.Codes.{ledger_code}
use Rattle.amm_model.specs.Lines.{IsUnbroken, line_of}
use Rattle.amm_engine.specs.Service.{AnswersLine}
use Rattle.amm_ffi.specs.declared.outcome.Unanswered.{Unanswered}
use Rattle.amm_ffi.specs.declared.outcome.Unanswered.TheVariants as why

-- The ledger, the number of the next line, and the text of the last reply.
pub record Progress : Type 0 where
  pub ledger : Ledger
  pub number : ℕ
  pub reply : List ℕ

abbrev pub progress_code : Coded Progress
progress_code =
    code_by (Ledger × (ℕ × List ℕ)) (coded× ledger_code (coded× coded_ℕ (coded_list coded_ℕ)))
    (λ p. (p.ledger, (p.number, p.reply))) (λ t. record { ledger = t.0; number = t.1.0; reply = t.1.1 }) (λ _. refl)

-- the session that has answered nothing
abbrev pub opening : Progress
opening = record { ledger = opening_ledger; number = 1; reply = [] }

-- The bytes are one line, and the session has answered it: the reply is one that this line may have
-- in the old ledger, and the new ledger is the one that it leaves.
pub record AnswersBytes (old : Progress) (bytes : List ℕ) (new : Progress) : Type 0 where
  pub unbroken : IsUnbroken bytes
  pub line : AnswersLine old.ledger old.number (line_of bytes) new.reply new.ledger
  pub number : new.number ≡ old.number + 1

-- why the session does not answer the bytes
abbrev pub IsWhy : Progress → List ℕ → Unanswered → Type 0
IsWhy was bytes why.Broken = ¬ IsUnbroken bytes
IsWhy was bytes why.Full = IsUnbroken bytes × (was.number ≡ 2 ^ 64 - 1)
IsWhy was bytes why.Memory = IsUnbroken bytes

-- the room, with as much of the text as fits in front
unfoldable pub over : List ℕ → List ℕ → List ℕ
over text room = if nat_le (length text) (length room) then text ++ drop (length text) room else take (length room) text
