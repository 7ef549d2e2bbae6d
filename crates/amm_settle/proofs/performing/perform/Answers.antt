use Rattle.amm_model.specs.Ledger.{Ledger}
use Rattle.amm_model.specs.Sales.{IsSold}
use Rattle.amm_state.proofs.Meets.{on_ok}
use Rattle.amm_settle.proofs.LegsPay.{legs_there, legs_sold, legs_not_refused, refused_so}
use Rattle.amm_settle.proofs.performing.perform.Goals as goal

pub perform_legs-requires-clause-there : goal.perform_legs-requires-clause-there
perform_legs-requires-clause-there c =
    rw (c.pools-pools.ensures.list, c.as_slice-legs.ensures) (legs_there c.args.quote.now.problem.pools _ _ c.args.quote.now.route.legs c.requires.delivers.0)

pub returns-clause-meets : goal.returns-clause-meets
returns-clause-meets c = rw (c.pools-pools.ensures.list, c.as_slice-legs.ensures) at c.perform_legs.ensures.meets

pub returns-clause-sold : goal.returns-clause-sold
returns-clause-sold c =
    on_ok (λ (l : Ledger). IsSold c.args.tx.now.present l c.args.actor.now c.args.quote.now) _ _ _ _
    (rw (c.pools-pools.ensures.list, c.as_slice-legs.ensures) at c.perform_legs.ensures.meets)
    (λ made is. legs_sold c.args.tx.now.present c.args.actor.now c.args.quote.now c.pools-pools.ensures.sound
    c.requires.delivers c.requires.free c.requires.kept c.requires.parts made is)

pub returns-clause-codes : goal.returns-clause-codes
returns-clause-codes c why is =
    legs_not_refused c.args.tx.now.present c.args.actor.now c.args.quote.now c.pools-pools.ensures.sound
    c.requires.delivers c.requires.free c.requires.kept c.requires.parts why
    (refused_so _ _ _ _ (rw (c.pools-pools.ensures.list, c.as_slice-legs.ensures) at c.perform_legs.ensures.meets) why is)
