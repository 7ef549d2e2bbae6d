use Rattle.std.proofs.Common.{◌≡◌, refl, ap, ◌∙◌, arith}
use Rattle.amm_model.specs.Ledger.{balance}
use Rattle.amm_model.proofs.LedgerLemmas.{transfer_to_oneself, same_holder_itself}
use Rattle.amm_state.specs.Book.{BookView}
use Rattle.amm_state.specs.Tx.{TxView}
use Rattle.amm_state.proofs.tx.Tx.need_funds.Goals as goal

pub returns-then-n-eq0 : goal.returns-then-n-eq0
returns-then-n-eq0 c = record {
  gives = transfer_to_oneself c.args.self.now.present c.args.asset.now c.args.holder.now c.args.holder.now c.args.n (omega arith) (same_holder_itself c.args.holder.now);
  opening = refl;
  mark = c.requires;
}

pub returns : goal.returns
returns c =
    let held : c.balance.result ≡ balance c.args.self.now.present c.args.asset.now c.args.holder.now =
    c.balance.ensures.amount ∙ ap (λ (b : BookView). balance b.ledger c.args.asset.now c.args.holder.now) c.deref.ensures ∙ ap (λ (v : TxView). balance v.present c.args.asset.now c.args.holder.now) c.self.view_is in
    record {
      gives = transfer_to_oneself c.args.self.now.present c.args.asset.now c.args.holder.now c.args.holder.now c.args.n (omega arith) (same_holder_itself c.args.holder.now);
      opening = refl;
      mark = c.requires;
    }
