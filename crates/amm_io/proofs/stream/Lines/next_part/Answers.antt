use Rattle.std.proofs.Common.{◌∙◌, sym, ap, arith, Some}
use Rattle.amm_io.specs.declared.stream.Stop.{Stop}
use Rattle.amm_io.specs.Streams.{Stream}
use Rattle.amm_io.proofs.Counts.{Rose-before}
use Rattle.amm_io.proofs.Reading.{Reading-more, Reading-ended, Reading-last, Reading-limit}
use Rattle.amm_io.proofs.stream.Lines.next_part.Goals as goal

pub returns-in-Ok-true-clause-next : goal.returns-in-Ok-true-clause-next
returns-in-Ok-true-clause-next g c =
    let t = c.in-Ok-true.ensures in
    Reading-ended _ _ _ _ _ _ _ _ c.part.invariant.0 (t.ended (cc (c.in-Ok-true.field-0-test))) t.rest c.into_line.ensures

pub part-preserved : goal.part-preserved
part-preserved g c =
    let t = c.in-Ok-false.ensures in
    let none = sym (ap (λ (s : Stream). s.met) c.self-in-part.view_is) ∙ c.in-None.is in
    let cause = c.refill.ensures.cause in (
      Reading-more _ _ _ _ _ _ _ _ _ c.part.invariant.0 (t.«open» (cc (c.in-Ok-false.field-0-test))) t.rest none c.refill.ensures.read,
      omega (arith, cause.later),
      λ first met. Rose-before _ _ _ c.part.invariant.1 (cause.rose met),
    )

pub returns-in-Some-EndOfInput-2-clause-next : goal.returns-in-Some-EndOfInput-2-clause-next
returns-in-Some-EndOfInput-2-clause-next g c =
    let t = c.in-Ok-false.ensures in
    let met = sym (ap (λ (s : Stream). s.met) c.self-in-part.view_is) ∙ c.in-Some-EndOfInput-2.is in
    let stop = rw c.in-Some-EndOfInput-2.is at c.in-Some-EndOfInput-2.field-0-is in
    Reading-last _ _ _ _ _ _ _ _ c.part.invariant.0 (t.«open» (cc (c.in-Ok-false.field-0-test))) t.rest (met ∙ ap (λ (s : Stop). Some s) stop) (λ seen holds none. let yes = (c.is_empty.ensures seen holds).1 none in cc (yes, c.if-is_empty.false)) c.into_line-in-Some-EndOfInput-2.ensures

pub returns-in-Some-InputLimit-clause-next : goal.returns-in-Some-InputLimit-clause-next
returns-in-Some-InputLimit-clause-next g c =
    let t = c.in-Ok-false.ensures in
    let met = sym (ap (λ (s : Stream). s.met) c.self-in-part.view_is) ∙ c.in-Some-InputLimit.is in
    let stop = rw c.in-Some-InputLimit.is at c.in-Some-InputLimit.field-0-is in
    Reading-limit _ _ _ _ _ _ _ _ c.part.invariant.0 (t.«open» (cc (c.in-Ok-false.field-0-test))) t.rest (met ∙ ap (λ (s : Stop). Some s) stop) c.clear.ensures
