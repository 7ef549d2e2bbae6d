use Rattle.std.proofs.Common.{◌≡◌, refl}
use Rattle.amm_model.specs.Routing.{ArePrices}
use Rattle.amm_cert.specs.Rows.{as_prices}
use Rattle.amm_cert.proofs.Prices.{prices_pass, prices_misfit}
use Rattle.amm_cert.proofs.row.prices.Goals as goal

pub returns-in-Some : goal.returns-in-Some
unfolding as_prices
returns-in-Some c =
    let is : c.in-Some.prices ≡ c.in_ok-found.found.items = c.in-Some.ensures.0 in
    let fit : ArePrices c.in_ok-found.found.items = rw is at c.in-Some.ensures.1 in
    rw (c.in_ok-values.ensures, c.in_ok-found.ensures, prices_pass c.in_ok-found.found.items fit, is) refl

pub returns-in-None : goal.returns-in-None
unfolding as_prices
returns-in-None c =
    rw (c.in_ok-values.ensures, c.in_ok-found.ensures, prices_misfit c.in_ok-found.found.items c.in-None.ensures) refl
