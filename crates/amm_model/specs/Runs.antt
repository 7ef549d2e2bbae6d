-- Runs of the ledger over numbered lines, and their output.
use Rattle.std.specs.Prelude.{◌≡◌, ◌≤◌, ◌+◌, ◌++◌, ℕ, List, [], ◌∷◌, Some, MatchResult}
use Rattle.std.specs.List.{flat_map}
use Rattle.amm_model.specs.declared.fault.Refusal.{Refusal}
use Rattle.amm_model.specs.declared.line.Line.{Line}
use Rattle.amm_model.specs.declared.line.Line.TheVariants.{Blank, Whole}
use Rattle.amm_model.specs.declared.reply.Answer.{Answer}
use Rattle.amm_model.specs.declared.reply.Answer.TheVariants as answers
use Rattle.amm_model.specs.declared.reply.Reply.{Reply}
use Rattle.amm_names.specs.Names.{Name}
use Rattle.amm_model.specs.declared.route.Quote.{Quote}
use Rattle.amm_model.specs.Outcome.{Outcome}
use Rattle.amm_model.specs.CommandView as command
use Rattle.amm_model.specs.CommandView.{CommandView}
use Rattle.amm_model.specs.Reading.{command_of_line}
use Rattle.amm_model.specs.Ledger.{Ledger, quote_of}
use Rattle.amm_model.specs.Sound.{IsAtRest}
use Rattle.amm_model.specs.Routing.{OpenView, PoolTrade, IsRoute, delivered_by, open_view}
use Rattle.amm_model.specs.Settlement.{IsDue, IsPaidAsQuoted}
use Rattle.amm_model.specs.Sales.{IsSold}
use Rattle.amm_model.specs.CycleRuns.{IsCycleGain}
use Rattle.amm_model.specs.Laws.{ZeroKept, TokenTotalsKept, Deposited, Withdrawn}
use Rattle.amm_model.specs.Answers.{ComesTo, answer_of, ledger_after}
use Rattle.amm_model.specs.ReplyText.{reply_text}

-- the texts of the replies, joined
abbrev pub output_of : List Reply → List ℕ
output_of replies = flat_map reply_text replies

-- the replies to the line with this number where it is answered so: one, with the number
abbrev pub one_reply : ℕ → Answer → List Reply
one_reply number answer = record { line = number; answer = answer } ∷ []

-- what may be said of one line: from a ledger, the line with a number has replies, and leaves a
-- ledger
abbrev pub OfOneLine : Type 1
OfOneLine = Ledger → ℕ → Line → List Reply → Ledger → Type 0

-- From old, the line with this number may have these replies, and leaves new. A blank line has none
-- and changes nothing. Every other line has one, with its number.
unfoldable pub Step : OfOneLine
Step old number Blank replies new = (replies ≡ []) × (new ≡ old)
Step old number line replies new =
    (outcome : Outcome Answer) × ComesTo old line outcome × (replies ≡ one_reply number (answer_of outcome)) × (new ≡ ledger_after old outcome)

-- From old, the lines, of which the first has this number, have these replies, and leave new, where
-- One holds at each line.
abbrev pub RunBy : OfOneLine → Ledger → ℕ → List Line → List Reply → Ledger → Type 0
RunBy One old number [] replies new = (replies ≡ []) × (new ≡ old)
RunBy One old number (line ∷ lines) replies new =
    (first : List Reply) × (rest : List Reply) × (mid : Ledger)
    × One old number line first mid × RunBy One mid (number + 1) lines rest new × (replies ≡ first ++ rest)

-- the runs that the ledger may make
abbrev pub Run : Ledger → ℕ → List Line → List Reply → Ledger → Type 0
Run = RunBy Step

-- how a command that is answered so moves the totals of tokens: an accepted deposit or withdrawal
-- by its amount, and nothing else
abbrev pub TotalsMoved : CommandView → Answer → Ledger → Ledger → Type 0
TotalsMoved (command.deposit user token n) (answers.Deposit held sum) old new = Deposited token n old new
TotalsMoved (command.withdraw user token n) (answers.Withdraw held sum) old new = Withdrawn token n old new
TotalsMoved asked answer old new = TokenTotalsKept old new

-- the same for a line
abbrev pub TotalsMovedBy : Line → Answer → Ledger → Ledger → Type 0
TotalsMovedBy (Whole bytes) answer old new = MatchResult (command_of_line bytes) (λ asked. TotalsMoved asked answer old new) (λ _. TokenTotalsKept old new)
TotalsMovedBy line answer old new = TokenTotalsKept old new

-- What is known of settlements. One that has to be accepted is, and tells what its quote delivers;
-- and whenever one is accepted, its quote is paid.
pub record SettlesQuotes (actor : Name) (asked deadline : ℕ) (answer : Answer) (old new : Ledger) : Type 0 where
  pub due : (quote : Quote) → quote_of old.quotes asked ≡ Some quote → IsDue old actor quote deadline → answer ≡ answers.Settle quote.delivered
  pub paid : (delivered : ℕ) → answer ≡ answers.Settle delivered →
      (quote : Quote) × (quote_of old.quotes asked ≡ Some quote) × (delivered ≡ quote.delivered) × IsPaidAsQuoted old new actor quote

-- the same for the command of a line, if it is one
abbrev pub SettledBy : CommandView → Answer → Ledger → Ledger → Type 0
SettledBy (command.act actor (command.settle asked deadline)) answer old new = SettlesQuotes actor asked deadline answer old new
SettledBy asked answer old new = Unit {0}

-- What is known of baskets and cycles: whoever sells a basket has what its quote delivers for no
-- more than its parts, and whoever takes a cycle has its profit and everything else as it was.
abbrev pub TradedBy : CommandView → Answer → Ledger → Ledger → Type 0
TradedBy (command.basket actor parts t min deadline) (answers.Basket quote) old new = IsSold old new actor quote
TradedBy (command.cycle actor t deadline) (answers.Cycle quote) old new = IsCycleGain old new actor quote
TradedBy asked answer old new = Unit {0}

-- what holds of the command of a line, if it has one
abbrev pub OfCommand : Line → (CommandView → Type 0) → Type 0
OfCommand (Whole bytes) holds = MatchResult (command_of_line bytes) holds (λ _. Unit {0})
OfCommand line holds = Unit {0}

-- no route of the problem delivers more than the bound
abbrev pub IsBeatenByNone : OpenView → (bound : ℕ) → Type 0
IsBeatenByNone problem bound = (route : List PoolTrade) → IsRoute problem route → delivered_by problem route ≤ bound

-- No route over the pools of what is printed delivers more than the bound that is printed; nor does
-- what is printed itself.
abbrev pub IsUnbeaten : Answer → Type 0
IsUnbeaten (answers.Split number quote) = IsBeatenByNone (open_view quote.problem) quote.bound
IsUnbeaten (answers.Basket quote) = IsBeatenByNone quote.problem quote.bound × (quote.delivered ≤ quote.bound)
IsUnbeaten (answers.Cycle quote) = IsBeatenByNone quote.problem quote.bound × (quote.delivered ≤ quote.bound)
IsUnbeaten answer = Unit {0}

-- A step of which more is known: it leaves a ledger at rest; a refused line changes nothing, no
-- asset of the zero holder falls, and the totals of tokens are moved by an accepted deposit or
-- withdrawal alone; settlements pay their quotes, and baskets and cycles what they print; and no
-- route beats a bound that is printed.
pub record FairStep (old : Ledger) (number : ℕ) (line : Line) (replies : List Reply) (new : Ledger) : Type 0 where
  pub step : Step old number line replies new
  pub rest : IsAtRest new
  pub refused : (why : Refusal) → replies ≡ one_reply number (answers.Refused why) → new ≡ old
  pub zero : ZeroKept old new
  pub totals : (answer : Answer) → replies ≡ one_reply number answer → TotalsMovedBy line answer old new
  pub settled : (answer : Answer) → replies ≡ one_reply number answer → OfCommand line (λ asked. SettledBy asked answer old new)
  pub traded : (answer : Answer) → replies ≡ one_reply number answer → OfCommand line (λ asked. TradedBy asked answer old new)
  pub unbeaten : (answer : Answer) → replies ≡ one_reply number answer → IsUnbeaten answer

-- the runs in which each step is fair
abbrev pub FairRun : Ledger → ℕ → List Line → List Reply → Ledger → Type 0
FairRun = RunBy FairStep
