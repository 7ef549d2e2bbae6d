-- Runs with the ledgers that their lines leave, and what the averages of the price oracle tell of
-- the prices in them.
use Rattle.std.specs.Prelude.{◌≡◌, ◌⊎◌, ◌+◌, ◌-◌, ◌++◌, ℕ, List, [], ◌∷◌, take, drop, get_or, slice_get, Some, Ok}
use Rattle.std.specs.List.{Contains}
use Rattle.amm_names.specs.Names.{Name}
use Rattle.amm_model.specs.declared.line.Line.{Line}
use Rattle.amm_model.specs.declared.line.Line.TheVariants.{Whole}
use Rattle.amm_model.specs.declared.observation.Averages.{Averages}
use Rattle.amm_model.specs.declared.observation.Observation.{Observation}
use Rattle.amm_model.specs.declared.reply.Answer.{Answer}
use Rattle.amm_model.specs.declared.reply.Answer.TheVariants as answers
use Rattle.amm_model.specs.declared.reply.Reply.{Reply}
use Rattle.amm_model.specs.CommandView as command
use Rattle.amm_model.specs.CommandView.{CommandView}
use Rattle.amm_model.specs.Ledger.{Ledger}
use Rattle.amm_model.specs.Reading.{command_of_line}
use Rattle.amm_model.specs.Runs.{OfOneLine, Step}
use Rattle.amm_model.specs.WeightedPrices.{price0, price1, weighted_average}

-- A run as RunBy has it, with the ledger that each line leaves, in the order of the lines.
abbrev pub RunThrough : OfOneLine → Ledger → ℕ → List Line → List Reply → List Ledger → Type 0
RunThrough One old number [] replies [] = replies ≡ []
RunThrough One old number (line ∷ lines) replies (next ∷ later) =
    (first : List Reply) × (rest : List Reply)
    × One old number line first next × RunThrough One next (number + 1) lines rest later × (replies ≡ first ++ rest)
RunThrough One old number lines replies later = ⊥

-- Of lines whose first has this number, and their replies: the line at this place, counted from 0,
-- is the command, and is answered so.
pub record IsDone (number : ℕ) (lines : List Line) (replies : List Reply) (place : ℕ) (asked : CommandView) (answer : Answer) : Type 0 where
  pub bytes : List ℕ
  pub line : slice_get lines place ≡ Some (Whole bytes)
  pub read : command_of_line bytes ≡ Ok asked
  pub reply : Contains replies (record { line = number + place; answer = answer })

-- The line at this place makes an observation of the pool, which gets this number.
abbrev pub MakesObservation : (number : ℕ) → List Line → List Reply → (place : ℕ) → (pool : Name) → (made : ℕ) → Type 0
MakesObservation number lines replies place pool made =
    (user : Name) × (kept : Observation) × IsDone number lines replies place (command.observe user pool) (answers.Observe made kept)

-- The line at this place tells averages between the observations with two numbers: for an `average`
-- they are asked for, and for a `window` they are found.
abbrev pub TellsBetween : (number : ℕ) → List Line → List Reply → (place first second : ℕ) → Averages → Type 0
TellsBetween number lines replies place first second told =
    IsDone number lines replies place (command.average first second) (answers.Average told)
    ⊎ ((pool : Name) × (seconds : ℕ)
    × IsDone number lines replies place (command.window pool seconds) (answers.Window (record { first = first; second = second; averages = told })))

-- Of the ledgers that the lines of a run leave: those after the line at place i, up to that of the
-- line at place j.
abbrev pub stretch : List Ledger → (i j : ℕ) → List Ledger
stretch later i j = take (j - i) (drop (i + 1) later)

-- The averages are those of the pool's two prices, from a ledger through later ones, each weighted
-- with the seconds for which it stood.
abbrev pub AreWeighted : Name → Ledger → List Ledger → Averages → Type 0
AreWeighted pool ledger later told =
    (told.price0 ≡ weighted_average (price0 pool) ledger later) × (told.price1 ≡ weighted_average (price1 pool) ledger later)

-- A run has these replies to the lines; and wherever the line at place k tells averages between two
-- observations that the lines at places i and j made, they are the time-weighted averages of the
-- pool's prices from the one line to the other. That the lines are in this order, and that both
-- observations are of one pool, follows. (whitepaper, 2.2)
pub record TellsAverages (old : Ledger) (number : ℕ) (lines : List Line) (replies : List Reply) : Type 0 where
  pub later : List Ledger
  pub run : RunThrough Step old number lines replies later
  pub averages : (i j k : ℕ) (pool pool2 : Name) (a b : ℕ) (told : Averages) →
      MakesObservation number lines replies i pool a → MakesObservation number lines replies j pool2 b →
      TellsBetween number lines replies k a b told →
      AreWeighted pool (get_or later i old) (stretch later i j) told
