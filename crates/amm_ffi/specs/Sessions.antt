-- What the calls of a session do.
use Rattle.std.specs.Prelude.{◌≡◌, ◌≢◌, ◌⊎◌, ◌↔◌, ◌-◌, ◌^◌, ℕ, List, Bool, true, false, Option, None, Some, length}
use Rattle.std.specs.Global.{Global}
use Rattle.std.specs.declared.boxed.Box.{Box}
use Rattle.amm_model.specs.Lines.{IsUnbroken}
use Rattle.amm_ffi.specs.declared.handle.Handle.{Handle}
use Rattle.amm_ffi.specs.declared.outcome.Answered.{Answered}
use Rattle.amm_ffi.specs.declared.outcome.TheConstants.{DONE, MEMORY, SHUT, OPEN, BROKEN, FULL}
use Rattle.amm_ffi.specs.Progress.{Progress, AnswersBytes, opening, over}

abbrev pub where_open : Bool → Progress → Option Progress
where_open true held = Some held
where_open false held = None

-- how far the session of a handle has come, None where it is shut
abbrev pub progress_of : Handle → Option Progress
progress_of handle = where_open handle.is_open handle.address.held

-- what lies in a box, where there is one
abbrev pub value_in : Option (Box Progress Global) → Option Progress
value_in None = None
value_in (Some held) = Some held.value

-- A session is opened, or nothing changes.
pub record Opens (old : Option Progress) (status : ℕ) (new : Option Progress) : Type 0 where
  pub done : status ≡ DONE → (old ≡ None) × (new ≡ Some opening)
  pub same : status ≢ DONE → new ≡ old
  pub already : status ≡ OPEN ↔ (old ≢ None)
  pub ends : (status ≡ DONE) ⊎ (status ≡ MEMORY) ⊎ (status ≡ OPEN)

-- The whole text has this length, and as much of it as fits is in front of the room.
pub record Gives (text before : List ℕ) (given : Answered) (after : List ℕ) : Type 0 where
  pub done : given.status ≡ DONE
  pub whole : given.length ≡ length text
  pub copied : after ≡ over text before

-- Nothing has changed, for this reason.
pub record Refuses (old : Option Progress) (before : List ℕ) (status : ℕ) (given : Answered) (new : Option Progress) (after : List ℕ) : Type 0 where
  pub told : given ≡ record { status = status; length = 0 }
  pub same : new ≡ old
  pub untouched : after ≡ before

-- The session has answered the line, and gives the reply.
pub record GivesReply (was : Progress) (line before : List ℕ) (given : Answered) (new : Option Progress) (after : List ℕ) : Type 0 where
  pub now : Progress
  pub is : new ≡ Some now
  pub answered : AnswersBytes was line now
  pub gives : Gives now.reply before given after

-- What a session does with a line: it gives the reply, or changes nothing, since a newline stands
-- in the line, since it has no number left, or for want of memory.
abbrev pub Takes : Progress → List ℕ → List ℕ → Answered → Option Progress → List ℕ → Type 0
Takes was line before given new after =
    GivesReply was line before given new after
    ⊎ ((¬ IsUnbroken line) × Refuses (Some was) before BROKEN given new after)
    ⊎ (IsUnbroken line × (was.number ≡ 2 ^ 64 - 1) × Refuses (Some was) before FULL given new after)
    ⊎ (IsUnbroken line × Refuses (Some was) before MEMORY given new after)

-- What a handle does with a line.
abbrev pub Answers : Option Progress → List ℕ → List ℕ → Answered → Option Progress → List ℕ → Type 0
Answers None line before given new after = Refuses None before SHUT given new after
Answers (Some was) line before given new after = Takes was line before given new after

-- What a handle does where its last reply is asked for.
abbrev pub Repeats : Option Progress → List ℕ → Answered → Option Progress → List ℕ → Type 0
Repeats None before given new after = Refuses None before SHUT given new after
Repeats (Some was) before given new after = (new ≡ Some was) × Gives was.reply before given after
