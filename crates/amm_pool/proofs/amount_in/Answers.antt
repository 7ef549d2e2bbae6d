use Rattle.std.proofs.Common.{arith}
use Rattle.amm_model.proofs.Swap.{fee_range, least_input}
use Rattle.amm_pool.proofs.amount_in.Goals as goal

pub returns-clause-least : goal.returns-clause-least
returns-clause-least c =
    rw (c.mul_div.ensures, c.weight.ensures.value)
    (least_input c.args.fee c.args.y c.args.rin c.args.rout (omega (arith, fee_range c.args.fee c.requires.fee)) (omega arith))
