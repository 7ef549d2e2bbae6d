use Rattle.std.proofs.lemmas.Result.{on_ok_weaker}
use Rattle.amm_model.specs.Certificate.{leg_value}
use Rattle.amm_text.proofs.Sent.{listed}
use Rattle.amm_cert.proofs.quote.send_route.Goals as goal

pub returns : goal.returns
returns g c =
    on_ok_weaker c.end_seq.result
    (λ ended. listed (leg_value c.args.pools.now) c.args.legs.now _ _ _ _ c.in_ok-begin_seq.ensures c.in_ok-send_each_leg.ensures ended)
    c.end_seq.ensures
