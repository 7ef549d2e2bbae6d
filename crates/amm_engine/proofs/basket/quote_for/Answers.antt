use Rattle.std.proofs.Common.{◌≡◌, ◌<◌, ◌∙◌, ap, arith, subst, sym}
use Rattle.amm_model.specs.Baskets.{HasNoBasket}
use Rattle.amm_model.specs.Market.{IsOpenProblemIn}
use Rattle.amm_model.specs.Routing.{OpenView}
use Rattle.amm_model.specs.Sales.{IsNoSale}
use Rattle.amm_model.specs.declared.fault.Refusal.{Refusal}
use Rattle.amm_model.specs.declared.fault.Refusal.TheVariants as code
use Rattle.amm_engine.proofs.Selling.{too_little}
use Rattle.amm_engine.proofs.basket.quote_for.Goals as goal

pub returns-then-quote-min-clause-refused : goal.returns-then-quote-min-clause-refused
returns-then-quote-min-clause-refused c =
    let found = rw c.in-Some.is at c.in_ok-quote.ensures in
    let is = subst (λ (p : OpenView). IsOpenProblemIn c.args.book.now.ledger c.args.parts.now c.args.t.now p) (sym found.0) c.in_ok-problem.ensures in
    let none = too_little c.args.book.now.ledger c.args.parts.now c.args.t.now c.args.min c.in-Some.quote is (λ no. found.1 (subst HasNoBasket found.0 no)) found.2
    c.if-quote-min.true in
    λ why e. (let same : code.InsufficientOutputAmount ≡ why = cc in subst (λ (w : Refusal). IsNoSale c.args.book.now.ledger c.args.parts.now c.args.t.now c.args.min w) same none)

pub returns-clause-some : goal.returns-clause-some
returns-clause-some c = let found = rw c.in-Some.is at c.in_ok-quote.ensures in λ none. found.1 (subst HasNoBasket found.0 none)
