use Rattle.std.proofs.Common.{◌≡◌, sym, ap, ◌∙◌}
use Rattle.std.proofs.lemmas.Str.{IsUtf8-from_ascii}
use Rattle.amm_model.specs.CommandView.{view_of}
use Rattle.amm_command.specs.Spelled.{lexemes_of}
use Rattle.amm_command.proofs.Lines.{line_read_if}
use Rattle.amm_command.proofs.plain.command.Goals as goal

pub returns-then-is_ascii : goal.returns-then-is_ascii
returns-then-is_ascii c =
    let ascii = c.if-is_ascii.ensures.cases in
    let whole = ap lexemes_of (sym c.new-line.ensures) in
    line_read_if view_of _ c.args.bytes.now c.in_ok-word.word.now c.in_ok-kind.kind _ _ _ (IsUtf8-from_ascii c.args.bytes.now ascii)
    (whole ∙ c.if-not-open.ensures) c.in_ok-word.ensures c.in_ok-kind.ensures c.row_of-found.ensures c.if-is_at_end.ensures
