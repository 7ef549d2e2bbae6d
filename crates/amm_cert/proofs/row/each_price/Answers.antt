use Rattle.std.proofs.Common.{Ok, ap, sym, arith}
use Rattle.std.proofs.lemmas.Result.{err_from_is_err_and}
use Rattle.serde_json.specs.View.{view}
use Rattle.amm_cert.specs.Rows.{each_price}
use Rattle.amm_cert.proofs.Prices.{price-next, price-fails}
use Rattle.amm_cert.proofs.row.each_price.Goals as goal

pub loop-i-init : goal.loop-i-init
unfolding each_price
loop-i-init c = ap Ok (sym c.in_ok-found.ensures.items)

pub returns-in_err-price : goal.returns-in_err-price
returns-in_err-price c =
    let p = err_from_is_err_and c.from_residual-in_err-price.result c.from_residual-in_err-price.ensures.1 in
    rw (p.1, p.2) (price-fails view c.args.tokens.now c.args.values.now c.loop-i.i c.index-tokens-i.result c.index-values-i.result c.loop-i.found.items c.in_err-price.field-0.0 c.loop-i-test.true (omega arith) c.index-tokens-i.is c.index-values-i.is c.loop-i.invariant c.in_err-price.ensures)

pub loop-i-preserved : goal.loop-i-preserved
loop-i-preserved c =
    rw c.in_ok-push.ensures.items (price-next view c.args.tokens.now c.args.values.now c.loop-i.i c.index-tokens-i.result c.index-values-i.result c.loop-i.found.items c.in_ok-price.field-0 c.loop-i-test.true (omega arith) c.index-tokens-i.is c.index-values-i.is c.loop-i.invariant c.in_ok-price.ensures)
