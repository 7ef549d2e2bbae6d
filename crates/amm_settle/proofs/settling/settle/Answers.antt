use Rattle.std.proofs.Common.{◌≡◌, ℕ, sym, ◌∙◌, subst}
use Rattle.amm_model.specs.declared.problem.ProblemPool.{ProblemPool}
use Rattle.std.specs.Prelude.{List}
use Rattle.amm_model.specs.Ledger.{Ledger}
use Rattle.amm_state.proofs.Meets.{on_ok, if_ok}
use Rattle.amm_model.specs.Settlement.{IsPaidAsQuoted}
use Rattle.amm_settle.specs.Places.{AreThere}
use Rattle.amm_settle.proofs.LegsPay.{legs_there, not_both, refused_so}
use Rattle.amm_settle.proofs.Settled.{settle_codes, settle_due, settle_paid}
use Rattle.amm_settle.proofs.settling.settle.Goals as goal

pub settle_over-requires-clause-there : goal.settle_over-requires-clause-there
settle_over-requires-clause-there c =
    subst (λ (pools : List ProblemPool). AreThere pools c.args.quote.now.route.legs) (sym c.pools-pools.ensures.list)
    (legs_there c.args.quote.now.problem.pools _ _ c.args.quote.now.route.legs c.requires.delivers.0)

pub returns-clause-paid : goal.returns-clause-paid
returns-clause-paid c =
    on_ok (λ (l : Ledger). IsPaidAsQuoted c.args.tx.now.present l c.args.actor.now c.args.quote.now) _ _ _ _ c.settle_over.ensures.meets
    (λ made is. (settle_paid _ _ _ _ made c.pools-pools.ensures.sound c.requires.delivers is).1)

pub returns-clause-codes : goal.returns-clause-codes
returns-clause-codes c why is =
    settle_codes _ _ _ _ c.pools-pools.ensures.sound c.requires.delivers why (refused_so _ _ _ _ c.settle_over.ensures.meets why is)

pub returns-clause-told : goal.returns-clause-told
returns-clause-told c =
    if_ok (λ (l : Ledger) (delivered : ℕ). delivered ≡ c.args.quote.now.delivered) _ _ _ _ c.settle_over.ensures.meets
    (λ made is. (settle_paid _ _ _ _ made c.pools-pools.ensures.sound c.requires.delivers is).0)

pub returns-clause-due : goal.returns-clause-due
returns-clause-due c why is due =
    let made = settle_due _ _ _ _ c.pools-pools.ensures.sound c.requires.delivers due in
    not_both _ why (sym made.1 ∙ refused_so _ _ _ _ c.settle_over.ensures.meets why is)
