use Rattle.std.proofs.Common.{ℕ, map, take}
use Rattle.serde_json.specs.Data.{string}
use Rattle.amm_text.specs.Sends.{SendsEach}
use Rattle.amm_work.specs.Names.{token_name}
use Rattle.amm_work.proofs.work_line.send_tokens.Given as goal

abbrev pub invariant-loop-token : goal.invariant-loop-token
invariant-loop-token g l = SendsEach (map (λ (t : ℕ). string (token_name t)) (take l.token-index l.tokens)) (g.S.Serializer.written l.initial.out) (g.S.Serializer.written l.out)
