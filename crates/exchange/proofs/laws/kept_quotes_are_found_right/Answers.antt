use Rattle.exchange.proofs.Findings.{kept_right, kept_short}
use Rattle.exchange.proofs.laws.kept_quotes_are_found_right.Goals as goal

pub returns : goal.returns
returns c = record { found = kept_right; short = kept_short }
