use Rattle.std.proofs.Common.{◌≡◌, Ok, arith}
use Rattle.serde_json.specs.Written.{compact_text}
use Rattle.amm_model.specs.CommandView.{CommandView}
use Rattle.amm_model.specs.Reading.{command_of_line}
use Rattle.amm_command.specs.Rows.{row_value}
use Rattle.amm_work.proofs.Rows.{each_row}
use Rattle.amm_work.proofs.law.lines_read_back.Goals as goal

pub returns : goal.returns
returns c seed count le =
    each_row (λ (asked : CommandView). command_of_line (compact_text (row_value asked)) ≡ Ok asked) c.rows_read_back.ensures seed 0 count (omega (arith, le))
