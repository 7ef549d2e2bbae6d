use Rattle.std.proofs.Common.{map, take}
use Rattle.amm_model.specs.Json.{whole}
use Rattle.amm_text.specs.Sends.{SendsEach}
use Rattle.amm_text.proofs.row.send_numbers.Given as goal

abbrev pub invariant-loop-n : goal.invariant-loop-n
invariant-loop-n g l = SendsEach (map whole (take l.n-index l.numbers)) (g.S.Serializer.written l.initial.out) (g.S.Serializer.written l.out)
