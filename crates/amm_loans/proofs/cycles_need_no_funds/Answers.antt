use Rattle.amm_loans.proofs.Cycled.{QuoteDone, quote_gains}
use Rattle.amm_loans.proofs.Fitting.{problem_pools}
use Rattle.amm_loans.proofs.OneLoan.{flash_made}
use Rattle.amm_loans.proofs.cycles_need_no_funds.Goals as goal

pub returns : goal.returns
returns c ledger actor quote step sound is_problem cycle ready is =
    let done : QuoteDone ledger actor quote = quote_gains ledger actor quote sound (problem_pools quote.problem is_problem) cycle ready in
    (flash_made done.made.ledger done.made.answer, done.is step is, done.gains)
