use Rattle.std.proofs.Common.{◌≡◌, ◌+◌, sym, ap, ◌∙◌}
use Rattle.amm_names.specs.declared.holder.Asset.TheVariants as assets
use Rattle.amm_model.specs.Ledger.{Ledger, with_more}
use Rattle.amm_model.specs.Outcome.{Made, ledger_only}
use Rattle.amm_model.specs.Postings.{issue}
use Rattle.amm_state.proofs.TxLemmas.{meets_same}
use Rattle.amm_model.proofs.Transfers.{issue_granted}
use Rattle.amm_model.specs.Pools.{supply}
use Rattle.amm_state.proofs.Meets.{on_ok}
use Rattle.amm_model.proofs.Guards.{same_answer}
use Rattle.amm_model.proofs.Balances.{added_added}
use Rattle.amm_pair.proofs.protocol.add_shares.Goals as goal

pub returns-clause-meets : goal.returns-clause-meets
returns-clause-meets c =
    meets_same _ _ _ (issue c.args.tx.now.present (assets.Share c.args.pool.now) c.args.to.now c.args.n) (ledger_only (with_more c.args.tx.now.present (assets.Share c.args.pool.now) c.args.to.now c.args.n))
    (sym (issue_granted c.args.tx.now.present (assets.Share c.args.pool.now) c.args.to.now c.args.n c.requires.room)) c.issue.ensures

pub returns-clause-whole : goal.returns-clause-whole
returns-clause-whole c =
    let new : Ledger = with_more c.args.tx.now.present (assets.Share c.args.pool.now) c.args.to.now c.args.n in
    on_ok (λ (l : Ledger). supply l c.args.pool.now ≡ supply c.args.tx.now.present c.args.pool.now + c.args.n) _ _ _ (ledger_only new) (returns-clause-meets c)
    (λ made is. ap (λ (m : Made (Unit {0})). supply m.ledger c.args.pool.now) (sym (same_answer (record { ledger = new; answer = tt }) made is))
    ∙ (added_added c.args.tx.now.present (assets.Share c.args.pool.now) c.args.to.now c.args.n).whole)

pub returns-clause-pairs : goal.returns-clause-pairs
returns-clause-pairs c =
    let new : Ledger = with_more c.args.tx.now.present (assets.Share c.args.pool.now) c.args.to.now c.args.n in
    on_ok (λ (l : Ledger). l.pairs ≡ c.args.tx.now.present.pairs) _ _ _ (ledger_only new) (returns-clause-meets c)
    (λ made is. ap (λ (m : Made (Unit {0})). m.ledger.pairs) (sym (same_answer (record { ledger = new; answer = tt }) made is)))
