use Rattle.std.proofs.Common.{◌≢◌, ◌<◌, ◌≤◌, ◌^◌, arith, subst}
use Rattle.std.specs.Prelude.{MatchOption, Option}
use Rattle.amm_model.specs.declared.problem.Part.{Part}
use Rattle.amm_model.specs.Routing.{AreParts, IsBefore, IsProblemOf, ProblemView, one_part, open_view}
use Rattle.amm_graph.proofs.Lists.{All1, AllPairs-one}
use Rattle.amm_graph.proofs.Markets.{market_of, parts_fit, some_made}
use Rattle.amm_graph.proofs.market.problem_of_book.Goals as goal

pub unwrap-requires : goal.unwrap-requires
unwrap-requires c =
    let pools = c.in_ok-pools.ensures in
    let part : Part = record { token = c.args.s.now; amount = c.args.d } in
    some_made (AreParts c.args.s.now c.args.t.now c.args.d c.in_ok-pools.pools.items) (IsProblemOf c.args.s.now c.args.t.now c.args.d c.in_ok-pools.pools.items) c.in_ok-from_parts.field-0 c.in_ok-from_parts.ensures
    (parts_fit c.args.book.now.ledger c.requires.rest (one_part c.args.s.now c.args.d) c.args.t.now c.in_ok-pools.pools.items (omega arith)
    (AllPairs-one (λ (a b : Part). IsBefore a.token b.token) part)
    (All1 (λ (p : Part). p.token ≢ c.args.t.now) part c.requires.apart)
    (All1 (λ (p : Part). (1 ≤ p.amount) × (p.amount < 2 ^ 52)) part c.requires.amount)
    pools.pools pools.names pools.few)

pub returns : goal.returns
returns c =
    let pools = c.in_ok-pools.ensures in
    let of = subst (λ (o : Option ProblemView). MatchOption o (AreParts c.args.s.now c.args.t.now c.args.d c.in_ok-pools.pools.items → ⊥)
    (λ problem. IsProblemOf c.args.s.now c.args.t.now c.args.d c.in_ok-pools.pools.items problem)) c.unwrap.ensures c.in_ok-from_parts.ensures in
    market_of c.args.book.now.ledger (one_part c.args.s.now c.args.d) c.args.t.now c.in_ok-pools.pools.items (open_view c.unwrap.result) pools.pools of
