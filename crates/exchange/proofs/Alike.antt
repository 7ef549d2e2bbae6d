-- Two runs over the lines of a seed have the same counts, and so the same line tells them.
use Rattle.std.proofs.Common.{◌≡◌, ◌∙◌, ◌+◌, ◌∷◌, ℕ, List, [], Some, None, map, sym, ap, ap₂, subst}
use Rattle.std.specs.declared.option.Option.{Option}
use Rattle.std.specs.Io.KnownBytes.{Appends}
use Rattle.std.specs.List.{AllByRecursion}
use Rattle.amm_model.specs.declared.line.Line.{Line}
use Rattle.amm_model.specs.declared.reply.Reply.{Reply}
use Rattle.amm_model.specs.CommandView.{CommandView}
use Rattle.amm_model.specs.Ledger.{Ledger, opening_ledger}
use Rattle.amm_model.specs.Lines.{line_of, lines_of}
use Rattle.amm_model.specs.Runs.{FairRun, Run}
use Rattle.amm_verdicts.specs.NoRoute.{LineTakesNoRoute}
use Rattle.amm_verdicts.proofs.Fixed.{counts_fixed, verdicts_fixed}
use Rattle.amm_work.specs.Commands.{commands_of, work_bytes}
use Rattle.exchange.specs.Work.{CountsRun, TellsCounts, work_line}
use Rattle.exchange.proofs.Working.{lines_of_work, text_of}

-- a fair run is a run
steps_of : (old new : Ledger) (number : ℕ) (lines : List Line) (replies : List Reply) → FairRun old number lines replies new → Run old number lines replies new
steps_of old new number [] replies run = run
steps_of old new number (line ∷ lines) replies run = (run.0, run.1, run.2, run.3.step, steps_of run.2 new (number + 1) lines run.1 run.4, run.5)

-- what holds of the line of each command holds of each line
each_laid : (P : Line → Type 0) (asked : List CommandView) → AllByRecursion (λ (c : CommandView). P (line_of (text_of c))) asked → AllByRecursion P (map line_of (map text_of asked))
each_laid P [] holds = tt
each_laid P (c ∷ asked) holds = (holds.0, each_laid P asked holds.1)

-- no command of the seed and the count has a line that trades along a route
abbrev pub TakeNoRoute : ℕ → ℕ → Type 0
TakeNoRoute seed count = AllByRecursion (λ (c : CommandView). LineTakesNoRoute (line_of (text_of c))) (commands_of seed count)

pub counts_alike : (seed count accepted refused taken declined : ℕ) → TakeNoRoute seed count
    → CountsRun seed count accepted refused → CountsRun seed count taken declined → (accepted ≡ taken) × (refused ≡ declined)
counts_alike seed count accepted refused taken declined none one two =
    let lines : List Line = lines_of (work_bytes seed count) in
    let each : AllByRecursion LineTakesNoRoute lines = subst (λ (ls : List Line). AllByRecursion LineTakesNoRoute ls) (sym (lines_of_work seed count)) (each_laid LineTakesNoRoute (commands_of seed count) none) in
    let first : Run opening_ledger 1 lines one.replies one.final = steps_of opening_ledger one.final 1 lines one.replies one.run in
    let second : Run opening_ledger 1 lines two.replies two.final = steps_of opening_ledger two.final 1 lines two.replies two.run in
    let same = counts_fixed one.replies two.replies (verdicts_fixed opening_ledger 1 lines one.replies two.replies one.final two.final each first second) in
    (one.accepts ∙ same.0 ∙ sym two.accepts, one.refuses ∙ same.1 ∙ sym two.refuses)

-- ---- the line

written_alike : (before line : List ℕ) (after other : Option (List ℕ)) → Appends (Some before) after line → Appends (Some before) other line → after ≡ other
written_alike before line None other one two = absurd one
written_alike before line (Some after) None one two = absurd two
written_alike before line (Some after) (Some other) one two = ap (λ (bytes : List ℕ). Some bytes) (one ∙ sym two)

pub tells_alike : (seed count : ℕ) (before : List ℕ) (after other : Option (List ℕ)) → TakeNoRoute seed count
    → TellsCounts seed count (Some before) after → TellsCounts seed count (Some before) other → after ≡ other
tells_alike seed count before after other none one two =
    let same = counts_alike seed count one.accepted one.refused two.accepted two.refused none one.counted two.counted in
    let line : work_line seed count one.accepted one.refused ≡ work_line seed count two.accepted two.refused = ap₂ (λ (a r : ℕ). work_line seed count a r) same.0 same.1 in
    written_alike before (work_line seed count two.accepted two.refused) after other (subst (λ (bytes : List ℕ). Appends (Some before) after bytes) line one.written) two.written
