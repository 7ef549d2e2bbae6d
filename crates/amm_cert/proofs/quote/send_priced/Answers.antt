use Rattle.std.proofs.Common.{◌≡◌, length, arith}
use Rattle.std.specs.List.{zip}
use Rattle.std.proofs.lemmas.Slice.Zip.{length-zip}
use Rattle.std.proofs.lemmas.Result.{on_ok_weaker}
use Rattle.amm_model.specs.Certificate.{price_value}
use Rattle.amm_text.proofs.Sent.{listed}
use Rattle.amm_cert.proofs.quote.send_priced.Goals as goal

pub returns : goal.returns
returns g c =
    let tokens = c.args.tokens.now in
    let prices = c.args.prices.now in
    let pairs = zip tokens prices in
    let many : length tokens ≡ length pairs = omega (arith, length-zip tokens prices, c.requires) in
    let begun = rw many at c.in_ok-begin_seq.ensures in
    on_ok_weaker c.end_seq.result
    (λ ended. listed price_value pairs _ _ _ _ begun c.in_ok-send_each_price.ensures ended)
    c.end_seq.ensures
