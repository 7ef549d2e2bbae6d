use Rattle.std.proofs.Common.{◌≡◌, sym}
use Rattle.amm_command.proofs.Fronts.{text_at}
use Rattle.amm_command.proofs.plain.cursor.Cursor.text.Goals as goal

pub returns : goal.returns
returns c = λ same. text_at _ _ c.in_ok-end.end c.if-not-quote.ensures (sym c.in_ok-end.ensures) same
