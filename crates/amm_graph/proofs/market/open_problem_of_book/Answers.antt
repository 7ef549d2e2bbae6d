use Rattle.std.proofs.Common.{List, subst, sym}
use Rattle.std.specs.Prelude.{MatchOption, Option}
use Rattle.amm_model.specs.declared.problem.Part.{Part}
use Rattle.amm_model.specs.Routing.{AreOpenParts, IsOpenProblemOf, OpenView}
use Rattle.amm_graph.proofs.Markets.{market_of, parts_fit, some_made}
use Rattle.amm_graph.proofs.market.open_problem_of_book.Goals as goal

pub unwrap-requires : goal.unwrap-requires
unwrap-requires c =
    let pools = c.in_ok-pools.ensures in
    some_made (AreOpenParts c.in_ok-parts.parts.items c.args.t.now c.in_ok-pools.pools.items) (IsOpenProblemOf c.in_ok-parts.parts.items c.args.t.now c.in_ok-pools.pools.items) c.in_ok-from_parts.field-0 c.in_ok-from_parts.ensures
    (subst (λ (ps : List Part). AreOpenParts ps c.args.t.now c.in_ok-pools.pools.items) (sym c.in_ok-parts.ensures.items)
    (parts_fit c.args.book.now.ledger c.requires.rest c.args.parts.now c.args.t.now c.in_ok-pools.pools.items c.requires.few c.requires.rising c.requires.apart c.requires.amounts pools.pools pools.names pools.few))

pub returns : goal.returns
returns c =
    let pools = c.in_ok-pools.ensures in
    let of = subst (λ (o : Option OpenView). MatchOption o (AreOpenParts c.in_ok-parts.parts.items c.args.t.now c.in_ok-pools.pools.items → ⊥)
    (λ problem. IsOpenProblemOf c.in_ok-parts.parts.items c.args.t.now c.in_ok-pools.pools.items problem)) c.unwrap.ensures c.in_ok-from_parts.ensures in
    market_of c.args.book.now.ledger c.args.parts.now c.args.t.now c.in_ok-pools.pools.items c.unwrap.result pools.pools
    (subst (λ (ps : List Part). IsOpenProblemOf ps c.args.t.now c.in_ok-pools.pools.items c.unwrap.result) c.in_ok-parts.ensures.items of)
