use Rattle.amm_path.proofs.Plans.{amounts_in_is}
use Rattle.amm_path.proofs.quotes.amounts_in.Goals as goal

pub returns : goal.returns
returns c = rw (amounts_in_is c.args.book.now.ledger c.args.path.now c.args.y) c.amounts_in_planned.ensures
