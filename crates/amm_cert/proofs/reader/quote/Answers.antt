use Rattle.std.proofs.Common.{◌≡◌, true, false, refl}
use Rattle.std.proofs.lemmas.Result.{err_from_is_err_and}
use Rattle.amm_cert.proofs.Whole.{head-none, pools-none, version-none, parts-none, quote-found}
use Rattle.amm_cert.proofs.reader.quote.Goals as goal

pub returns-in_err-head : goal.returns-in_err-head
returns-in_err-head c =
    let p = err_from_is_err_and c.from_residual.result c.from_residual.ensures.1 in
    rw (p.1, p.2) (head-none _ _ _ _ _ _ _ _ _ _ c.in_err-head.field-0.0 c.in_err-head.ensures)

pub returns-in_err-pools : goal.returns-in_err-pools
returns-in_err-pools c =
    let p = err_from_is_err_and c.from_residual-in_err-pools.result c.from_residual-in_err-pools.ensures.1 in
    rw (p.1, p.2) (pools-none _ _ _ _ _ _ _ _ _ _ c.in_err-pools.field-0.0 c.in_err-pools.ensures)

pub returns-then-not-is_version_for : goal.returns-then-not-is_version_for
returns-then-not-is_version_for c = λ q is.
    version-none _ _ _ _ _ _ _ _ _ _ c.in_ok-head.head c.in_ok-pools.pools.items c.in_ok-head.ensures c.in_ok-pools.ensures q
    (λ known. let wrong : false ≡ true = c.if-not-is_version_for.ensures.1 (rw c.deref.ensures.value known) in cc) is

pub returns-in-Some : goal.returns-in-Some
returns-in-Some c =
    quote-found _ _ _ _ _ _ _ _ _ _ c.in_ok-head.head c.in_ok-pools.pools.items c.in_ok-head.ensures c.in_ok-pools.ensures c.in-Some.problem c.quote_over.result
    (rw c.deref.ensures.value at (c.if-not-is_version_for.ensures.0 refl)) (rw c.in-Some.is at c.in_ok-problem.ensures) c.quote_over.ensures.value c.quote_over.ensures.delivered c.quote_over.ensures.bound

pub returns-in-None : goal.returns-in-None
returns-in-None c = λ q is.
    parts-none _ _ _ _ _ _ _ _ _ _ c.in_ok-head.head c.in_ok-pools.pools.items c.in_ok-head.ensures c.in_ok-pools.ensures q (rw c.in-None.is at c.in_ok-problem.ensures) is
