use Rattle.amm_path.proofs.Plans.{exact_in_is}
use Rattle.amm_path.proofs.exact_in.swap_exact_in.Goals as goal

pub returns-clause-meets : goal.returns-clause-meets
returns-clause-meets c =
    rw (exact_in_is c.args.tx.now.present c.args.actor.now c.args.path.now c.args.to.now c.args.x c.args.min c.args.deadline) c.swap_exact_in_planned.ensures.meets
