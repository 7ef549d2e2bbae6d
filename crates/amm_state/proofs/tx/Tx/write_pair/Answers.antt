use Rattle.std.proofs.Common.{◌≡◌, ◌∷◌, Some, List, ap, sym, subst, ◌∙◌}
use Rattle.amm_model.specs.Ledger.{pair_of, set_pair}
use Rattle.amm_state.specs.declared.journal.Undo.{Undo}
use Rattle.amm_state.specs.declared.journal.Undo.TheVariants.{Pair}
use Rattle.amm_state.specs.Book.{BookView}
use Rattle.amm_state.specs.Journal.{IsRevertible, undo_all}
use Rattle.amm_state.specs.Tx.{TxView}
use Rattle.amm_state.proofs.JournalLemmas.{pair_changed, pair_leads_back}
use Rattle.amm_state.proofs.tx.Tx.write_pair.Goals as goal

pub invariant_of-self-2 : goal.invariant_of-self-2
invariant_of-self-2 c =
    let was : pair_of c.deref_mut.result.now.ledger.pairs c.args.pool.now ≡ Some c.unwrap-before.result = sym c.replace_pair.ensures.before ∙ c.unwrap-before.ensures in
    let noted = c.note.ensures.noted ∙ ap (λ (changes : List Undo). Pair c.args.pool.now c.unwrap-before.result ∷ changes) c.reserve.ensures.same in
    pair_changed c.self.inside.journal.changes _ c.deref_mut.result.now _ c.args.pool.now c.unwrap-before.result c.args.new noted was c.replace_pair.ensures.written (subst (IsRevertible c.self.inside.journal.changes) (sym c.deref_mut.ensures.value) c.self.invariant)

pub returns-clause-ok : goal.returns-clause-ok
returns-clause-ok c =
    let was : pair_of c.deref_mut.result.now.ledger.pairs c.args.pool.now ≡ Some c.unwrap-before.result = sym c.replace_pair.ensures.before ∙ c.unwrap-before.ensures in
    let noted = c.note.ensures.noted ∙ ap (λ (changes : List Undo). Pair c.args.pool.now c.unwrap-before.result ∷ changes) c.reserve.ensures.same in
    let opening = pair_leads_back c.self.inside.journal.changes _ c.deref_mut.result.now _ c.args.pool.now c.unwrap-before.result c.args.new noted was c.replace_pair.ensures.written
    ∙ ap (λ (b : BookView). undo_all c.self.inside.journal.changes b.ledger) c.deref_mut.ensures.value
    ∙ ap (λ (t : TxView). t.opening) c.self.view_is in
    let present = ap (λ (b : BookView). b.ledger) c.replace_pair.ensures.written
    ∙ ap (λ (b : BookView). record b.ledger { pairs = set_pair b.ledger.pairs c.args.pool.now c.args.new }) c.deref_mut.ensures.value
    ∙ ap (λ (t : TxView). record t.present { pairs = set_pair t.present.pairs c.args.pool.now c.args.new }) c.self.view_is in
    let mark = ap (λ (t : TxView). t.mark) c.self.view_is in
    λ i. record { opening = opening i; present = present i; mark = mark i }
