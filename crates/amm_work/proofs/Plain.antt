-- The row of a line has no float.
use Rattle.std.proofs.Common.{◌≡◌, ℕ, false, refl}
use Rattle.serde_json.specs.Written.{has_float}
use Rattle.amm_command.specs.Rows.{row_value}
use Rattle.amm_work.specs.declared.draws.Draws.{Draws}
use Rattle.amm_work.specs.declared.draws.Kind.{Kind}
use Rattle.amm_work.specs.declared.draws.Kind.TheVariants as kinds
use Rattle.amm_work.specs.declared.work_line.WorkLine.{WorkLine}
use Rattle.amm_work.specs.declared.work_line.WorkLine.TheVariants.{Deposit, FirstAdd, Split, Certificate, Drawn}
use Rattle.amm_work.specs.Commands.{command_of, drawn_command}

drawn_plain : (kind : Kind) (i : ℕ) (d : Draws) → has_float (row_value (drawn_command kind i d)) ≡ false
drawn_plain kinds.SwapIn i d = refl
drawn_plain kinds.SwapOut i d = refl
drawn_plain kinds.SwapThrough i d = refl
drawn_plain kinds.Add i d = refl
drawn_plain kinds.Remove i d = refl
drawn_plain kinds.Time i d = refl
drawn_plain kinds.Flash i d = refl
drawn_plain kinds.Transfer i d = refl
drawn_plain kinds.Balance i d = refl
drawn_plain kinds.Pool i d = refl

pub line_plain : (line : WorkLine) → has_float (row_value (command_of line)) ≡ false
line_plain (Deposit u t) = refl
line_plain (FirstAdd a b) = refl
line_plain (Split amount) = refl
line_plain (Certificate number) = refl
line_plain (Drawn i d) = drawn_plain d.kind i d
