use Rattle.std.proofs.Common.{◌≡◌}
use Rattle.amm_names.specs.declared.holder.Holder.TheVariants as holders
use Rattle.amm_names.specs.declared.holder.Asset.TheVariants as assets
use Rattle.amm_model.specs.Ledger.{Ledger}
use Rattle.amm_model.proofs.Transfers.{retire_taken}
use Rattle.amm_state.proofs.Meets.{on_ok}
use Rattle.amm_pair.proofs.mint_burn.end_shares.Goals as goal

pub returns-clause-pairs : goal.returns-clause-pairs
returns-clause-pairs c =
    let before = c.args.tx.now.present in
    on_ok (λ (l : Ledger). l.pairs ≡ before.pairs) _ _ _ _ c.retire.ensures
    (λ made is. (retire_taken before (assets.Share c.args.pool.now) (holders.Pool c.args.pool.now) c.args.own made is).1.rest.pairs)
