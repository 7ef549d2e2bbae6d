-- The lines of a source, one after the other.
use Rattle.std.specs.Prelude.{◌≡◌, ◌<◌, ◌≤◌, ◌+◌, ◌-◌, ◌++◌, ◌⊎◌, ℕ, List, [], ◌∷◌, length, take, Option, None, Some, Result, Ok, Err}
use Rattle.std.specs.Io.KnownBytes.{Consumes, IsAtEnd}
use Rattle.amm_model.specs.declared.line.Line.{Line}
use Rattle.amm_model.specs.Lines.{line_of, IsUnbroken}
use Rattle.amm_io.specs.declared.stream.Stop.{Stop}
use Rattle.amm_io.specs.declared.stream.Stop.TheVariants as stop
use Rattle.amm_io.specs.declared.source.IoEnd.{IoEnd}
use Rattle.amm_io.specs.declared.source.IoEnd.TheVariants as end

-- What a Lines keeps of its source.
pub record Stream : Type 0 where
  -- the bytes that it took and has neither given out nor dropped
  pub kept : List ℕ
  -- how many bytes it took
  pub taken : ℕ
  pub limit : ℕ
  -- the end that it has met
  pub met : Option Stop

-- those of the bytes that stand within the limit, where the bytes begin with what was kept before
-- the call
abbrev pub within_limit : Stream → List ℕ → List ℕ
within_limit old bytes = take (old.limit + length old.kept - old.taken) bytes

-- A line that a newline within the limit ended. All that was taken after the newline is kept. No
-- end is met by it, but that the limit was passed, exactly where a byte more than the limit was
-- taken.
pub record GivesEndedLine (old new : Stream) (bytes : List ℕ) (line : Line) : Type 0 where
  pub part : List ℕ
  pub unbroken : IsUnbroken part
  pub is : line ≡ line_of part
  pub split : bytes ≡ part ++ 10 ∷ new.kept
  pub within : new.taken ≤ new.limit + length new.kept
  pub met : (new.met ≡ old.met) ⊎ ((old.met ≡ None) × (new.met ≡ Some stop.InputLimit))
  pub passed : new.limit < new.taken → new.met ≡ Some stop.InputLimit

-- The last line of the input, which no newline ended.
pub record GivesLastLine (new : Stream) (bytes : List ℕ) (line : Line) (AtEnd : Type 0) : Type 0 where
  pub unbroken : IsUnbroken bytes
  pub some : 0 < length bytes
  pub is : line ≡ line_of bytes
  pub drained : new.kept ≡ []
  pub met : new.met ≡ Some stop.EndOfInput
  pub within : new.taken ≤ new.limit
  pub at_end : AtEnd

-- The input has ended, and nothing is left of it.
pub record IsDrained (new : Stream) (bytes : List ℕ) (AtEnd : Type 0) : Type 0 where
  pub nothing : bytes ≡ []
  pub drained : new.kept ≡ []
  pub met : new.met ≡ Some stop.EndOfInput
  pub within : new.taken ≤ new.limit
  pub at_end : AtEnd

-- The source failed within the limit. An unfinished line is dropped.
pub record MeetsReadFault (new : Stream) (bytes : List ℕ) : Type 0 where
  pub unbroken : IsUnbroken bytes
  pub drained : new.kept ≡ []
  pub met : new.met ≡ Some stop.ReadFault
  pub within : new.taken ≤ new.limit

-- The byte after the limit was taken, and no further line ends before it.
pub record MeetsLimit (old new : Stream) (bytes : List ℕ) : Type 0 where
  pub unbroken : IsUnbroken (within_limit old bytes)
  pub drained : new.kept ≡ []
  pub met : new.met ≡ Some stop.InputLimit
  pub passed : new.taken ≡ new.limit + 1

-- Memory ran out.
pub record MeetsMemory (new : Stream) : Type 0 where
  pub drained : new.kept ≡ []
  pub met : new.met ≡ Some stop.Memory

-- how a call for the next line ended, where these bytes were kept before it or came in it
abbrev pub NextOutcome : Stream → Stream → List ℕ → Type 0 → Result (Option Line) IoEnd → Type 0
NextOutcome old new bytes AtEnd (Ok (Some line)) = GivesEndedLine old new bytes line ⊎ GivesLastLine new bytes line AtEnd
NextOutcome old new bytes AtEnd (Ok None) = IsDrained new bytes AtEnd
NextOutcome old new bytes AtEnd (Err end.ReadFault) = MeetsReadFault new bytes
NextOutcome old new bytes AtEnd (Err end.InputLimit) = MeetsLimit old new bytes
NextOutcome old new bytes AtEnd (Err end.Memory) = MeetsMemory new

-- A call for the next line: the bytes that it took, and how it ended.
pub record TakesNext (left_before left_after : Option (List ℕ)) (old new : Stream) (result : Result (Option Line) IoEnd) : Type 0 where
  pub given : List ℕ
  pub consumed : Consumes left_before left_after given
  pub count : new.taken ≡ old.taken + length given
  pub most : new.taken ≤ old.limit + 1
  pub same : new.limit ≡ old.limit
  pub outcome : NextOutcome old new (old.kept ++ given) ((old.met ≡ Some stop.EndOfInput) ⊎ IsAtEnd left_after) result

-- what a call gives where an end was met before
abbrev pub again_of : Stop → Result (Option Line) IoEnd
again_of stop.EndOfInput = Ok None
again_of stop.ReadFault = Err end.ReadFault
again_of stop.InputLimit = Err end.InputLimit
again_of stop.Memory = Err end.Memory
