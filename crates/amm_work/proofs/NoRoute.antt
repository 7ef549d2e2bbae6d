-- The lines of a seed trade along no route that was found.
use Rattle.std.proofs.Common.{◌≡◌, ◌+◌, ℕ, zero, suc, List, Bool, true, false, length, nat_lt, Result, Ok, sym, subst}
use Rattle.std.specs.Prelude.{MatchResult, if◌then◌else◌}
use Rattle.std.specs.List.{AllByRecursion, list_all}
use Rattle.serde_json.specs.Written.{compact_text}
use Rattle.amm_model.specs.declared.fault.Refusal.{Refusal}
use Rattle.amm_model.specs.declared.limits.TheConstants.{LINE_LIMIT}
use Rattle.amm_model.specs.declared.line.Line.TheVariants.{Blank, Whole, Long}
use Rattle.amm_model.specs.CommandView.{CommandView}
use Rattle.amm_model.specs.Lines.{is_blank, line_of}
use Rattle.amm_model.specs.Reading.{command_of_line}
use Rattle.amm_verdicts.specs.NoRoute.{LineTakesNoRoute, TakesNoRoute}
use Rattle.amm_command.specs.Rows.{row_value}
use Rattle.amm_work.specs.declared.draws.Draws.{Draws}
use Rattle.amm_work.specs.declared.draws.Kind.{Kind}
use Rattle.amm_work.specs.declared.draws.Kind.TheVariants as kinds
use Rattle.amm_work.specs.declared.work_line.WorkLine.{WorkLine}
use Rattle.amm_work.specs.declared.work_line.WorkLine.TheVariants.{Deposit, FirstAdd, Split, Certificate, Drawn}
use Rattle.amm_work.specs.Commands.{command_of, commands_from, drawn_command, line_from}

-- ---- the commands

drawn_takes_none : (kind : Kind) (i : ℕ) (d : Draws) → TakesNoRoute (drawn_command kind i d)
drawn_takes_none kinds.SwapIn i d = tt
drawn_takes_none kinds.SwapOut i d = tt
drawn_takes_none kinds.SwapThrough i d = tt
drawn_takes_none kinds.Add i d = tt
drawn_takes_none kinds.Remove i d = tt
drawn_takes_none kinds.Time i d = tt
drawn_takes_none kinds.Flash i d = (tt, tt)
drawn_takes_none kinds.Transfer i d = tt
drawn_takes_none kinds.Balance i d = tt
drawn_takes_none kinds.Pool i d = tt

command_takes_none : (line : WorkLine) → TakesNoRoute (command_of line)
command_takes_none (Deposit u t) = tt
command_takes_none (FirstAdd a b) = tt
command_takes_none (Split amount) = tt
command_takes_none (Certificate number) = tt
command_takes_none (Drawn i d) = drawn_takes_none d.kind i d

-- ---- their lines

abbrev text_of : CommandView → List ℕ
text_of asked = compact_text (row_value asked)

row_takes_none : (c : CommandView) → command_of_line (text_of c) ≡ Ok c → TakesNoRoute c → LineTakesNoRoute (line_of (text_of c))
unfolding line_of
row_takes_none c read none = by (nat_lt LINE_LIMIT (length (text_of c))) (list_all is_blank (text_of c))
  where
    whole : LineTakesNoRoute (Whole (text_of c))
    whole = subst (λ (r : Result CommandView Refusal). MatchResult r TakesNoRoute (λ _. Unit {0})) (sym read) none

    by : (long blank : Bool) → LineTakesNoRoute (if long then Long else if blank then Blank else Whole (text_of c))
    by true blank = tt
    by false true = tt
    by false false = whole

-- lines that are read as the commands of a seed
pub lines_take_none : (x i count : ℕ) → AllByRecursion (λ (c : CommandView). command_of_line (text_of c) ≡ Ok c) (commands_from x i count)
    → AllByRecursion (λ (c : CommandView). LineTakesNoRoute (line_of (text_of c))) (commands_from x i count)
lines_take_none x i zero read = tt
lines_take_none x i (suc count) read =
    (row_takes_none (command_of (line_from x i).0) read.0 (command_takes_none (line_from x i).0), lines_take_none (line_from x i).1 (i + 1) count read.1)
