use Rattle.std.proofs.Common.{◌∙◌, List, arith, ap, length, refl, subst, sym}
use Rattle.std.specs.Prelude.{AllPairs}
use Rattle.std.specs.List.{filter_map}
use Rattle.amm_model.specs.declared.problem.ProblemPool.{ProblemPool}
use Rattle.amm_model.specs.Routing.{IsBefore}
use Rattle.amm_graph.specs.Markets.{pool_in}
use Rattle.amm_graph.proofs.Markets.{fewer, pools_here, pools_in-rise}
use Rattle.amm_graph.proofs.market.pools_of.Goals as goal

pub returns-clause-pools : goal.returns-clause-pools
returns-clause-pools c =
    let ledger = c.args.book.now.ledger in
    pools_here ledger ledger c.in_ok-names.names.items c.in_ok-pools.pools.items refl
    (c.in_ok-pools.ensures ∙ ap (filter_map (pool_in ledger)) c.deref.ensures.value) c.in_ok-names.ensures.names

pub returns-clause-names : goal.returns-clause-names
returns-clause-names c =
    let ledger = c.args.book.now.ledger in
    subst (λ (ps : List ProblemPool). AllPairs (λ (a b : ProblemPool). IsBefore a.name b.name) ps) (sym (c.in_ok-pools.ensures ∙ ap (filter_map (pool_in ledger)) c.deref.ensures.value))
    (pools_in-rise ledger c.in_ok-names.names.items c.in_ok-names.ensures.ascending)

pub returns-clause-few : goal.returns-clause-few
returns-clause-few c =
    let ledger = c.args.book.now.ledger in
    let are = c.in_ok-pools.ensures ∙ ap (filter_map (pool_in ledger)) c.deref.ensures.value in
    omega (arith, ap length are, fewer (pool_in ledger) c.in_ok-names.names.items, c.in_ok-names.ensures.count)
