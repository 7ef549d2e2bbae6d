use Rattle.std.proofs.Common.{◌≡◌, true, false, ok_or, ap}
use Rattle.amm_model.specs.declared.fault.Refusal.TheVariants.{BadJson}
use Rattle.amm_model.proofs.Json.{json_value-none}
use Rattle.amm_command.proofs.Lines.{json_value-some}
use Rattle.amm_command.proofs.whole_line.json.Goals as goal

pub returns-in-Ok : goal.returns-in-Ok
returns-in-Ok c = ap (λ o. ok_or o BadJson) (json_value-some c.args.bytes.now _ c.in-Ok.ensures.ok.0 c.in-Ok.ensures.ok.1)

pub returns-else-is_memory : goal.returns-else-is_memory
returns-else-is_memory c =
    ap (λ o. ok_or o BadJson) (json_value-none c.args.bytes.now (λ u. c.in-Err.ensures.err (λ m. let e : false ≡ true = c.if-is_memory.ensures.1 m in cc) u))
