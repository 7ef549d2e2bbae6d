use Rattle.std.proofs.Common.{◌≡◌, ◌∙◌, ◌≤◌, ◌+◌, ◌*◌, ◌^◌, ℕ, ap, subst, refl, map, length, get_or}
use Rattle.std.proofs.lemmas.List.{get_or_read_under}
use Rattle.amm_model.specs.declared.problem.ProblemPool.{ProblemPool}
use Rattle.amm_model.specs.Bound.{worth_of}
use Rattle.amm_model.specs.Routing.{OpenView, fee_of, no_pool, places_of}
use Rattle.amm_dual.proofs.LineLaw.{flows-more, flows-same}
use Rattle.amm_dual.proofs.Worths.{no_places, place-at}
use Rattle.amm_dual.proofs.flows.add_pool.Goals as goal

pub returns-then-has_room-2 : goal.returns-then-has_room-2
returns-then-has_room-2 c =
    let problem = c.args.running.now.problem in
    let i = c.args.i in
    let same = c.problem-problem.ensures.same in
    let places = c.places-places.result.now in
    let places-are : places ≡ map (places_of problem.tokens) problem.pools = c.places-places.ensures.list ∙ ap (λ (o : OpenView). map (places_of o.tokens) o.pools) same in
    let pools-are : c.pools-pools.result.now ≡ problem.pools = c.pools-pools.ensures.list ∙ ap (λ (o : OpenView). o.pools) same in
    let pool-is : c.index-pools-i.result ≡ get_or problem.pools i no_pool =
    get_or_read_under problem.pools i (length problem.pools) c.index-pools-i.result no_pool (rw pools-are at c.index-pools-i.is) c.requires.within refl in
    let trade = c.trade_of-trade.result in
    let gains : (q0 q1 : ℕ) → q0 * trade.given0 + q1 * trade.given1 ≤ q0 * trade.taken0 + q1 * trade.taken1
    + 2 ^ 14 * (worth_of (fee_of (get_or problem.pools i no_pool)) (get_or problem.pools i no_pool).r0 (get_or problem.pools i no_pool).r1 q0 q1 + 1) =
    subst (λ (pool : ProblemPool). (q0 q1 : ℕ) → q0 * trade.given0 + q1 * trade.given1 ≤ q0 * trade.taken0 + q1 * trade.taken1 + 2 ^ 14 * (worth_of (fee_of pool) pool.r0 pool.r1 q0 q1 + 1))
    pool-is c.trade_of-trade.ensures in
    flows-more problem i c.args.given.now c.args.taken.now c.add.new.amounts c.add-then-has_room-2.new.amounts (get_or places i no_places) trade.given0 trade.given1 trade.taken0 trade.taken1
    c.requires.within (place-at problem.tokens problem.pools places i c.requires.within places-are) gains c.add.ensures.value c.add-then-has_room-2.ensures.value
    c.add.ensures.many c.add-then-has_room-2.ensures.many c.add.ensures.few c.add-then-has_room-2.ensures.few c.requires.before

pub returns-else-has_room : goal.returns-else-has_room
returns-else-has_room c = flows-same c.args.running.now.problem c.args.i c.args.given.now c.args.taken.now c.requires.within c.requires.before
