use Rattle.std.proofs.Common.{ℕ, refl}
use Rattle.serde_json.specs.Data.{string}
use Rattle.amm_text.proofs.Sent.{each-more}
use Rattle.amm_work.specs.Names.{token_name}
use Rattle.amm_work.proofs.work_line.send_tokens.Goals as goal

pub loop-token-preserved : goal.loop-token-preserved
loop-token-preserved g c =
    each-more (λ (t : ℕ). string (token_name t)) c.args.tokens.now c.loop-token.token-index _ 0 _ _ _ c.loop-token-test.true refl c.loop-token.invariant c.in_ok-send_token.ensures
