use Rattle.amm_path.proofs.Plans.{amounts_out_is}
use Rattle.amm_path.proofs.quotes.amounts_out.Goals as goal

pub returns : goal.returns
returns c = rw (amounts_out_is c.args.book.now.ledger c.args.path.now c.args.x) c.amounts_out_planned.ensures
