use Rattle.std.proofs.Common.{◌≡◌, false, ap, sym, ◌∙◌}
use Rattle.amm_names.specs.Order.{same_holder}
use Rattle.amm_model.specs.Outcome.{ledger_only}
use Rattle.amm_names.proofs.OrderLemmas.{holder_eq}
use Rattle.amm_state.specs.Tx.{TxView}
use Rattle.amm_state.proofs.Canonical.{transfer-apart}
use Rattle.amm_state.proofs.tx.Tx.move_units.Goals as goal

pub returns-in-Ok : goal.returns-in-Ok
returns-in-Ok c =
    let apart : same_holder c.args.from.now c.args.to.now ≡ false = sym (holder_eq c.args.from.now c.args.to.now) ∙ sym c.eq.ensures ∙ c.if-eq.false in
    let e = c.in-Ok.ensures in
    record {
      gives = transfer-apart c.args.self.now.present c.args.asset.now c.args.from.now c.args.to.now c.args.n e.funds apart ∙ sym (ap (λ (t : TxView). ledger_only t.present) e.ok);
      opening = ap (λ (t : TxView). t.opening) e.ok;
      mark = ap (λ (t : TxView). t.mark) e.ok ∙ c.requires;
    }
