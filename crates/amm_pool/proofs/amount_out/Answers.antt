use Rattle.std.proofs.Common.{arith}
use Rattle.amm_model.proofs.Swap.{fee_range, greatest_output}
use Rattle.amm_pool.proofs.amount_out.Goals as goal

pub returns-clause-greatest : goal.returns-clause-greatest
returns-clause-greatest c =
    rw (c.mul_div.ensures, c.weight.ensures.value)
    (greatest_output c.args.fee c.args.x c.args.rin c.args.rout (omega (arith, fee_range c.args.fee c.requires.fee)) (omega arith) (omega arith))
