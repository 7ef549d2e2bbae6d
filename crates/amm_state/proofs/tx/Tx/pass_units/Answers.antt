use Rattle.std.proofs.Common.{ℕ, ◌+◌, ◌-◌, ◌∷◌, List, sym, ap, subst, ◌∙◌}
use Rattle.amm_model.specs.Ledger.{set_balance, with_more, with_transfer}
use Rattle.amm_state.specs.declared.journal.Undo.{Undo}
use Rattle.amm_state.specs.declared.journal.Undo.TheVariants.{Balance}
use Rattle.amm_state.specs.Book.{BookView}
use Rattle.amm_state.specs.Journal.{IsCanonical, IsRevertible, undo_all}
use Rattle.amm_state.specs.Tx.{TxView}
use Rattle.amm_state.proofs.Canonical.{moved-nothing}
use Rattle.amm_state.proofs.JournalLemmas.{move_changed, move_leads_back}
use Rattle.amm_state.proofs.tx.Tx.pass_units.Goals as goal

pub returns-then-n-eq0-clause-ok : goal.returns-then-n-eq0-clause-ok
returns-then-n-eq0-clause-ok c =
    let canonical = subst (λ (t : TxView). IsCanonical t.present) c.self.view_is c.self.invariant.canonical in
    let opening = ap (λ (changes : List Undo). undo_all changes c.self.inside.book.value.ledger) c.reserve.ensures.same ∙ ap (λ (t : TxView). t.opening) c.self.view_is in
    let present = ap (λ (t : TxView). t.present) c.self.view_is ∙ sym (moved-nothing c.args.self.now.present c.args.asset.now c.args.from.now c.args.to.now canonical) ∙ ap (with_transfer c.args.self.now.present c.args.asset.now c.args.from.now c.args.to.now) (sym c.if-n-eq0.true) in
    let mark = ap (λ (t : TxView). t.mark) c.self.view_is in
    λ i. record { opening = opening i; present = present i; mark = mark i }

pub invariant_of-self-2 : goal.invariant_of-self-2
invariant_of-self-2 c =
    let b = c.in_ok-before.before in
    let moved = c.in_ok-before.ensures.moved in
    let noted = c.note-2.ensures.noted ∙ ap (λ (changes : List Undo). Balance c.args.asset.now c.args.to.now b.receiver ∷ changes)
    (c.note.ensures.noted ∙ ap (λ (changes : List Undo). Balance c.args.asset.now c.args.from.now b.sender ∷ changes) c.reserve.ensures.same) in
    move_changed c.self.inside.journal.changes _ c.deref_mut.result.now _ c.args.asset.now c.args.from.now c.args.to.now c.args.n b noted moved (subst (IsRevertible c.self.inside.journal.changes) (sym c.deref_mut.ensures.value) c.self.invariant)

pub returns-clause-ok : goal.returns-clause-ok
returns-clause-ok c =
    let b = c.in_ok-before.before in
    let moved = c.in_ok-before.ensures.moved in
    let noted = c.note-2.ensures.noted ∙ ap (λ (changes : List Undo). Balance c.args.asset.now c.args.to.now b.receiver ∷ changes)
    (c.note.ensures.noted ∙ ap (λ (changes : List Undo). Balance c.args.asset.now c.args.from.now b.sender ∷ changes) c.reserve.ensures.same) in
    let opening = move_leads_back c.self.inside.journal.changes _ c.deref_mut.result.now _ c.args.asset.now c.args.from.now c.args.to.now c.args.n b noted moved (subst (IsRevertible c.self.inside.journal.changes) (sym c.deref_mut.ensures.value) c.self.invariant)
    ∙ ap (λ (b : BookView). undo_all c.self.inside.journal.changes b.ledger) c.deref_mut.ensures.value
    ∙ ap (λ (t : TxView). t.opening) c.self.view_is in
    let present = ap (λ (x : BookView). x.ledger) moved.ok
    ∙ ap (λ (k : ℕ). set_balance (set_balance c.deref_mut.result.now.ledger c.args.asset.now c.args.from.now (b.sender - c.args.n)) c.args.asset.now c.args.to.now (k + c.args.n)) moved.receiver
    ∙ ap (λ (k : ℕ). with_more (set_balance c.deref_mut.result.now.ledger c.args.asset.now c.args.from.now (k - c.args.n)) c.args.asset.now c.args.to.now c.args.n) moved.sender
    ∙ ap (λ (b : BookView). with_transfer b.ledger c.args.asset.now c.args.from.now c.args.to.now c.args.n) c.deref_mut.ensures.value
    ∙ ap (λ (t : TxView). with_transfer t.present c.args.asset.now c.args.from.now c.args.to.now c.args.n) c.self.view_is in
    let mark = ap (λ (t : TxView). t.mark) c.self.view_is in
    λ i. record { opening = opening i; present = present i; mark = mark i }
