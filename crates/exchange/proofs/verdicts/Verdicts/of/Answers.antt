use Rattle.std.proofs.Common.{◌+◌, length, drop, arith}
use Rattle.std.proofs.lemmas.List.{length-drop}
use Rattle.exchange.proofs.Counting.{behind_front, counts_more, counts_all, one_counted}
use Rattle.exchange.proofs.verdicts.Verdicts.of.Goals as goal

pub loop-end-preserved : goal.loop-end-preserved
loop-end-preserved c =
    let rest = c.loop-end.rest.now in
    let end = c.in-Some.end in
    let found = c.in-Some.ensures in
    let refuses = c.refuses.result in
    record {
      room = rw (c.with-verdicts.ensures, behind_front rest (end + 1)) (omega (arith, c.loop-end.invariant.room, found.0.high, one_counted refuses, length-drop (end + 1) rest));
      counts = λ all is.
          rw (c.with-verdicts.ensures, behind_front rest (end + 1))
          (counts_more rest c.loop-end.verdicts.accepted c.loop-end.verdicts.refused end refuses all (c.loop-end.invariant.counts all is)
          found.0.high (λ k lt. found.0.before k (omega arith) lt) found.1 c.refuses.ensures);
    }

pub returns-clause-accepted : goal.returns-clause-accepted
returns-clause-accepted c = λ all is.
    (counts_all c.loop-end.rest.now _ _ all (c.loop-end.invariant.counts all is) (λ k lt. c.in_default.ensures k (omega arith) lt)).0

pub returns-clause-refused : goal.returns-clause-refused
returns-clause-refused c = λ all is.
    (counts_all c.loop-end.rest.now _ _ all (c.loop-end.invariant.counts all is) (λ k lt. c.in_default.ensures k (omega arith) lt)).1
