use Rattle.std.proofs.Common.{ℕ}
use Rattle.std.proofs.lemmas.Result.{on_ok_weaker}
use Rattle.serde_json.specs.Data.{string}
use Rattle.amm_text.proofs.Sent.{listed}
use Rattle.amm_work.specs.Names.{token_name}
use Rattle.amm_work.proofs.work_line.send_path.Goals as goal

pub returns : goal.returns
returns g c =
    on_ok_weaker c.end_seq.result
    (λ ended. listed (λ (t : ℕ). string (token_name t)) c.args.tokens.now _ _ _ _ c.in_ok-begin_seq.ensures c.in_ok-send_tokens.ensures ended)
    c.end_seq.ensures
