use Rattle.std.proofs.Common.{map, take}
use Rattle.amm_model.specs.Certificate.{leg_value}
use Rattle.amm_text.specs.Sends.{SendsEach}
use Rattle.amm_cert.proofs.quote.send_each_leg.Given as goal

abbrev pub invariant-loop-leg : goal.invariant-loop-leg
invariant-loop-leg g l = SendsEach (map (leg_value l.pools) (take l.leg-index l.legs)) (g.S.Serializer.written l.initial.out) (g.S.Serializer.written l.out)
