use Rattle.amm_path.proofs.Plans.{exact_out_is}
use Rattle.amm_path.proofs.exact_out.swap_exact_out.Goals as goal

pub returns-clause-meets : goal.returns-clause-meets
returns-clause-meets c =
    rw (exact_out_is c.args.tx.now.present c.args.actor.now c.args.path.now c.args.to.now c.args.y c.args.max c.args.deadline) c.swap_exact_out_planned.ensures.meets
