use Rattle.std.proofs.Common.{◌≡◌, ℕ, ◌<◌, ◌≤◌, List, length, get_or, map, sym, ap, ◌∙◌, subst, arith}
use Rattle.std.specs.List.{zip}
use Rattle.std.proofs.lemmas.List.{take_all}
use Rattle.std.proofs.lemmas.Slice.Zip.{get_or-zip, length-zip}
use Rattle.amm_model.specs.Certificate.{price_value}
use Rattle.amm_text.specs.Sends.{SendsEach}
use Rattle.amm_text.proofs.Sent.{each-more}
use Rattle.amm_cert.proofs.quote.send_each_price.Goals as goal

as_many : (tokens : List (List ℕ)) (prices : List ℕ) → length prices ≡ length tokens → length (zip tokens prices) ≡ length tokens
as_many tokens prices same = let count = length-zip tokens prices in omega (arith, count, same)

pub loop-i-preserved : goal.loop-i-preserved
loop-i-preserved g c =
    let within : c.loop-i.i < length c.args.prices.now = omega arith in
    let among : c.loop-i.i < length (zip c.args.tokens.now c.args.prices.now) = omega (arith, as_many c.args.tokens.now c.args.prices.now c.requires) in
    let d : List ℕ × ℕ = (c.index-tokens-i.result, 0) in
    let is = ap (λ t. (t, get_or c.args.prices.now c.loop-i.i 0)) c.index-tokens-i.is ∙ sym (get_or-zip c.args.tokens.now c.args.prices.now c.loop-i.i d c.loop-i-test.true within) in
    each-more price_value (zip c.args.tokens.now c.args.prices.now) c.loop-i.i (c.index-tokens-i.result, get_or c.args.prices.now c.loop-i.i 0) d _ _ _ among is c.loop-i.invariant c.in_ok-send_price.ensures

pub returns : goal.returns
returns g c =
    let le : length (zip c.args.tokens.now c.args.prices.now) ≤ c.loop-i.i = omega (arith, as_many c.args.tokens.now c.args.prices.now c.requires) in
    subst (λ ps. SendsEach (map price_value ps) (g.S.Serializer.written c.args.out.now) (g.S.Serializer.written c.loop-i.out)) (take_all c.loop-i.i (zip c.args.tokens.now c.args.prices.now) le) c.loop-i.invariant
