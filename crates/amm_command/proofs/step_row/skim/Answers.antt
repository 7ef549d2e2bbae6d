use Rattle.std.proofs.Common.{◌≡◌, length, refl, arith}
use Rattle.amm_model.proofs.Moves.{move_of-Skim}
use Rattle.amm_command.proofs.Listed.{listed_2}
use Rattle.amm_command.proofs.step_row.skim.Goals as goal

pub returns-in_ok-to-in-len2 : goal.returns-in_ok-to-in-len2
returns-in_ok-to-in-len2 c =
    let two : length c.args.arguments.now ≡ 2 = omega arith in
    rw (listed_2 c.args.arguments.now _ _ two c.pool_value-item.is c.to_value-item.is, c.in_ok-pool-in-len2.ensures, c.in_ok-to-in-len2.ensures, move_of-Skim c.in_ok-pool-in-len2.pool c.in_ok-to-in-len2.to) refl
