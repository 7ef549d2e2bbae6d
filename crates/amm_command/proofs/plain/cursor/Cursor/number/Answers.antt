use Rattle.std.proofs.Common.{◌≡◌, arith}
use Rattle.amm_command.proofs.Fronts.{number_at}
use Rattle.amm_command.proofs.plain.cursor.Cursor.number.Goals as goal

pub returns-then-ends_word-clause-text : goal.returns-then-ends_word-clause-text
returns-then-ends_word-clause-text c =
    let small = c.if-is_amount.ensures in
    number_at c.args.self.now.rest.now c.in_ok-n.n c.in_ok-n.end c.in_ok-n.ensures.value (omega (arith, small)) c.if-ends_word.ensures
