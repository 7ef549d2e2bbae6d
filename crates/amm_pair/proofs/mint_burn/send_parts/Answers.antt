use Rattle.std.proofs.Common.{◌≡◌}
use Rattle.amm_model.specs.Ledger.{Ledger}
use Rattle.amm_state.proofs.Meets.{on_ok}
use Rattle.amm_pair.proofs.Operations.{both_pairs, both_sent_each}
use Rattle.amm_pair.proofs.mint_burn.send_parts.Goals as goal

pub returns-clause-pairs : goal.returns-clause-pairs
returns-clause-pairs c =
    let before = c.args.tx.now.present in
    on_ok (λ (l : Ledger). l.pairs ≡ before.pairs) _ _ _ _ c.send_both.ensures
    (λ made is. both_pairs c.args.pool.now _ _ before made.ledger (both_sent_each before c.args.pool.now _ _ c.args.to.now made is))
