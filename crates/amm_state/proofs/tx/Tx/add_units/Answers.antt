use Rattle.std.proofs.Common.{ℕ, ◌+◌, ◌∷◌, List, sym, ap, subst, ◌∙◌, arith}
use Rattle.amm_model.specs.Ledger.{set_balance, with_more}
use Rattle.amm_state.specs.declared.journal.Undo.{Undo}
use Rattle.amm_state.specs.declared.journal.Undo.TheVariants.{Balance}
use Rattle.amm_state.specs.Book.{BookView}
use Rattle.amm_state.specs.Journal.{IsRevertible, undo_all}
use Rattle.amm_state.specs.Tx.{TxView}
use Rattle.amm_state.proofs.JournalLemmas.{balance_changed, balance_leads_back}
use Rattle.amm_state.proofs.tx.Tx.add_units.Goals as goal

pub invariant_of-self-2 : goal.invariant_of-self-2
invariant_of-self-2 c =
    let e = c.in_ok-before.ensures in
    let noted = c.note.ensures.noted ∙ ap (λ (changes : List Undo). Balance c.args.asset.now c.args.to.now c.in_ok-before.before ∷ changes) c.reserve.ensures.same in
    balance_changed c.self.inside.journal.changes _ c.deref_mut.result.now _ c.args.asset.now c.args.to.now (c.in_ok-before.before + c.args.n) c.in_ok-before.before noted e.before e.ok (subst (IsRevertible c.self.inside.journal.changes) (sym c.deref_mut.ensures.value) c.self.invariant)
    (omega (arith, c.in_ok-before.ensures.limit))

pub returns-clause-ok : goal.returns-clause-ok
returns-clause-ok c =
    let e = c.in_ok-before.ensures in
    let noted = c.note.ensures.noted ∙ ap (λ (changes : List Undo). Balance c.args.asset.now c.args.to.now c.in_ok-before.before ∷ changes) c.reserve.ensures.same in
    let opening = balance_leads_back c.self.inside.journal.changes _ c.deref_mut.result.now _ c.args.asset.now c.args.to.now (c.in_ok-before.before + c.args.n) c.in_ok-before.before noted e.before e.ok (subst (IsRevertible c.self.inside.journal.changes) (sym c.deref_mut.ensures.value) c.self.invariant)
    ∙ ap (λ (b : BookView). undo_all c.self.inside.journal.changes b.ledger) c.deref_mut.ensures.value
    ∙ ap (λ (t : TxView). t.opening) c.self.view_is in
    let present = ap (λ (b : BookView). b.ledger) e.ok ∙ ap (λ (k : ℕ). set_balance c.deref_mut.result.now.ledger c.args.asset.now c.args.to.now (k + c.args.n)) e.before
    ∙ ap (λ (b : BookView). with_more b.ledger c.args.asset.now c.args.to.now c.args.n) c.deref_mut.ensures.value
    ∙ ap (λ (t : TxView). with_more t.present c.args.asset.now c.args.to.now c.args.n) c.self.view_is in
    let mark = ap (λ (t : TxView). t.mark) c.self.view_is in
    λ i. record { opening = opening i; present = present i; mark = mark i }
