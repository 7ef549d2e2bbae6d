use Rattle.std.proofs.Common.{map, take}
use Rattle.std.specs.List.{zip}
use Rattle.amm_model.specs.Certificate.{price_value}
use Rattle.amm_text.specs.Sends.{SendsEach}
use Rattle.amm_cert.proofs.quote.send_each_price.Given as goal

abbrev pub invariant-loop-i : goal.invariant-loop-i
invariant-loop-i g l = SendsEach (map price_value (take l.i (zip l.tokens l.prices))) (g.S.Serializer.written l.initial.out) (g.S.Serializer.written l.out)
