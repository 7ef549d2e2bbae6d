use Rattle.std.proofs.Common.{◌∙◌, ap, arith}
use Rattle.amm_io.specs.Streams.{Stream}
use Rattle.amm_io.proofs.Reading.{again}
use Rattle.amm_io.proofs.stream.Lines.next.Goals as goal

pub returns-clause-next : goal.returns-clause-next
returns-clause-next g c =
    rw (c.stopped.ensures, ← c.self.view_is) (again _ _ _ (ap (λ (s : Stream). s.kept) c.self.view_is ∙ c.is_drained.ensures.0 c.if-is_drained.true) c.in-Some.is
    (record { most = omega arith; within = c.self.invariant.4; ended = c.self.invariant.5; faulted = c.self.invariant.6; passed = c.self.invariant.7; lacked = λ _. ap (λ (s : Stream). s.kept) c.self.view_is ∙ c.is_drained.ensures.0 c.if-is_drained.true }))
