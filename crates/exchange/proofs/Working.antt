-- A run over the lines of a seed has a reply to each.
use Rattle.std.proofs.Common.{Some, ◌≡◌, ◌≢◌, ◌+◌, ◌++◌, ◌∙◌, ◌∷◌, ℕ, zero, suc, List, [], Bool, true, false, length, map, nat_lt, refl, ap, subst, sym, arith}
use Rattle.std.specs.Prelude.{codes, if◌then◌else◌}
use Rattle.std.specs.declared.option.Option.{Option}
use Rattle.std.specs.List.{AllByRecursion, flat_map}
use Rattle.std.proofs.lemmas.List.{length-append, length-map}
use Rattle.serde_json.specs.Data.{string}
use Rattle.serde_json.specs.Written.{compact_text, has_float}
use Rattle.amm_command.specs.Rows.{row_value}
use Rattle.amm_engine.proofs.Parts.{end_part, lines_of-parts}
use Rattle.amm_model.specs.declared.limits.TheConstants.{LINE_LIMIT}
use Rattle.amm_model.specs.declared.line.Line.{Line}
use Rattle.amm_model.specs.declared.line.Line.TheVariants.{Blank, Whole, Long}
use Rattle.amm_model.specs.declared.reply.Reply.{Reply}
use Rattle.amm_model.specs.CommandView.{CommandView}
use Rattle.amm_model.specs.Json.{whole}
use Rattle.amm_model.specs.Ledger.{Ledger, opening_ledger}
use Rattle.amm_model.specs.Lines.{IsUnbroken, line_of, lines_of}
use Rattle.amm_model.specs.Runs.{FairRun, Step, output_of}
use Rattle.amm_text.proofs.Sent.{list_plain}
use Rattle.amm_verdicts.specs.Verdicts.{accepted_in, is_refused, refused_in}
use Rattle.amm_work.specs.Commands.{commands_from, commands_of, line_from, line_text, work_bytes}
use Rattle.exchange.specs.Headline.{RepliesToAll}
use Rattle.exchange.specs.Work.{CountsRun, work_value}
use Rattle.exchange.proofs.Counting.{one_counted}
use Rattle.exchange.proofs.Unbroken.{compact_unbroken}

-- ---- replies and lines

-- a reply accepts or refuses
each_counted : (replies : List Reply) → accepted_in replies + refused_in replies ≡ length replies
each_counted [] = refl
each_counted (reply ∷ replies) = omega (arith, one_counted (is_refused reply), each_counted replies)

one_reply_each : (old new : Ledger) (number : ℕ) (line : Line) (replies : List Reply) → line ≢ Blank → Step old number line replies new → length replies ≡ 1
unfolding Step
one_reply_each old new number Blank replies some step = absurd (some refl)
one_reply_each old new number (Whole bytes) replies some step = ap length step.2
one_reply_each old new number Long replies some step = ap length step.2

abbrev AreSome : List Line → Type 0
AreSome lines = AllByRecursion (λ line. line ≢ Blank) lines

replies_to_each : (old new : Ledger) (number : ℕ) (lines : List Line) (replies : List Reply) → AreSome lines → FairRun old number lines replies new → length replies ≡ length lines
replies_to_each old new number [] replies some run = ap length run.0
replies_to_each old new number (line ∷ lines) replies some run =
    omega (
      arith,
      ap length run.5,
      length-append run.0 run.1,
      one_reply_each old run.2 number line run.0 some.0 run.3.step,
      replies_to_each run.2 new (number + 1) lines run.1 some.1 run.4,
    )

-- ---- the lines of commands

abbrev pub text_of : CommandView → List ℕ
text_of asked = compact_text (row_value asked)

all_unbroken : (asked : List CommandView) → AllByRecursion IsUnbroken (map text_of asked)
all_unbroken [] = tt
all_unbroken (c ∷ asked) = (compact_unbroken (row_value c), all_unbroken asked)

-- a row begins with a bracket
row_some : (c : CommandView) → line_of (text_of c) ≢ Blank
unfolding line_of
row_some c = by (nat_lt LINE_LIMIT (length (text_of c)))
  where
    by : (p : Bool) → (if p then Long else Whole (text_of c)) ≢ Blank
    by true = λ e. cc e
    by false = λ e. cc e

all_some : (asked : List CommandView) → AreSome (map line_of (map text_of asked))
all_some [] = tt
all_some (c ∷ asked) = (row_some c, all_some asked)

lines_of_rows : (asked : List CommandView) → lines_of (flat_map end_part (map text_of asked)) ≡ map line_of (map text_of asked)
lines_of_rows asked = lines_of-parts (map text_of asked) (all_unbroken asked)

-- a run over the lines of commands has as many replies
pub replies_to_rows : (old new : Ledger) (number : ℕ) (asked : List CommandView) (bytes : List ℕ) (replies : List Reply) → bytes ≡ flat_map end_part (map text_of asked)
    → FairRun old number (lines_of bytes) replies new → accepted_in replies + refused_in replies ≡ length asked
replies_to_rows old new number asked bytes replies is run =
    let parts : List (List ℕ) = map text_of asked in
    let lines : lines_of bytes ≡ map line_of parts = ap lines_of is ∙ lines_of_rows asked in
    let each = replies_to_each old new number (map line_of parts) replies (all_some asked) (subst (λ ls. FairRun old number ls replies new) lines run) in
    each_counted replies ∙ each ∙ length-map parts line_of ∙ length-map asked text_of

-- ---- the lines of a seed

length-commands : (x i count : ℕ) → length (commands_from x i count) ≡ count
length-commands x i zero = refl
length-commands x i (suc count) = ap suc (length-commands (line_from x i).1 (i + 1) count)

lines_laid : (asked : List CommandView) → flat_map line_text asked ≡ flat_map end_part (map text_of asked)
unfolding line_text
lines_laid [] = refl
lines_laid (c ∷ asked) = ap (λ s. end_part (text_of c) ++ s) (lines_laid asked)

pub lines_of_work : (seed count : ℕ) → lines_of (work_bytes seed count) ≡ map line_of (map text_of (commands_of seed count))
unfolding work_bytes
lines_of_work seed count = ap lines_of (lines_laid (commands_of seed count)) ∙ lines_of_rows (commands_of seed count)

-- the verdicts of the replies to the lines of a seed are as many as the lines
pub counts_run : (seed count accepted refused : ℕ) (left written : Option (List ℕ)) → (told : RepliesToAll (work_bytes seed count) [] left written)
    → accepted ≡ accepted_in told.replies → refused ≡ refused_in told.replies → CountsRun seed count accepted refused
unfolding work_bytes
counts_run seed count accepted refused left written told a r = record {
  replies = told.replies;
  final = told.final;
  run = told.run;
  accepts = a;
  refuses = r;
  all =
      let all = replies_to_rows opening_ledger told.final 1 (commands_of seed count) (flat_map line_text (commands_of seed count)) told.replies (lines_laid (commands_of seed count)) told.run in
      omega (arith, a, r, all, length-commands seed 0 count);
}

-- what is written is the replies
pub told_output : (input : List ℕ) (left : Option (List ℕ)) (written : List ℕ) (told : RepliesToAll input [] left (Some written)) → written ≡ output_of told.replies
told_output input left written told = let output = told.output in cc (output)

-- ---- the line that is written

pub work_plain : (seed count accepted refused : ℕ) → has_float (work_value seed count accepted refused) ≡ false
work_plain seed count accepted refused =
    list_plain (string (codes "work") ∷ whole seed ∷ whole count ∷ whole accepted ∷ whole refused ∷ []) ((refl, (refl, (refl, (refl, (refl, tt))))))
