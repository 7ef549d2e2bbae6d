use Rattle.exchange.proofs.Lines.{unwritten}
use Rattle.exchange.proofs.checker.write_finding.Goals as goal

pub returns-in_default-clause-err : goal.returns-in_default-clause-err
returns-in_default-clause-err g c = unwritten _ _
