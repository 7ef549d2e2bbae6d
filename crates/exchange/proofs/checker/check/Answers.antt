use Rattle.exchange.proofs.Findings.{assured}
use Rattle.exchange.proofs.checker.check.Goals as goal

pub returns-in-Ok-write_finding-clause-assures : goal.returns-in-Ok-write_finding-clause-assures
returns-in-Ok-write_finding-clause-assures g c = λ done.
    assured _ _ _ _ _ _
    (record {
      input = c.in-Ok.bytes.items;
      taken = c.in-Ok.ensures.all;
      finding = c.in-Ok-of.finding;
      found = rw c.as_slice.ensures.value at c.in-Ok-of.ensures;
      written = c.in-Ok-write_finding.ensures.ok;
      told = c.status.ensures;
    }) done
