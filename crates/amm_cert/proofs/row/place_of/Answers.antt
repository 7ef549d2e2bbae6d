use Rattle.std.proofs.Common.{◌≡◌, arith, true, get_or, sym, ap₂, ◌∙◌}
use Rattle.std.specs.Str.{bytes_eq}
use Rattle.amm_model.specs.Routing.{no_pool}
use Rattle.amm_cert.proofs.Places.{place-first, place-none}
use Rattle.amm_cert.proofs.row.place_of.Goals as goal

pub returns-then-eq-clause-value : goal.returns-then-eq-clause-value
returns-then-eq-clause-value c =
    let here = c.index-pools-i.result in
    let found : bytes_eq c.args.name.now (get_or c.args.pools.now c.loop-i.i here).name ≡ true =
    ap₂ bytes_eq (sym c.as_bytes.ensures.value) (sym c.as_bytes-in-loop-i.ensures.value) ∙ sym c.eq.ensures ∙ c.if-eq.true in
    place-first c.args.pools.now c.args.name.now c.loop-i.i here c.loop-i-test.true (λ k below. c.loop-i.invariant k here below) found

pub returns-clause-value : goal.returns-clause-value
returns-clause-value c = place-none c.args.pools.now c.args.name.now (λ k below. c.loop-i.invariant k no_pool (omega arith))
