use Rattle.std.proofs.Common.{arith}
use Rattle.amm_dual.proofs.Shared.{singles-none}
use Rattle.amm_dual.proofs.singles.no_singles.Goals as goal

pub returns : goal.returns
returns c = λ prices.
    singles-none c.args.problem.now prices c.loop.singles.items (omega (arith, c.loop.invariant.many, c.loop.invariant.within, c.loop.invariant.whole, c.loop-test.false)) c.loop.invariant.none
